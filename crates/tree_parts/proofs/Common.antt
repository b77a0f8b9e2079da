-- The names that most proofs here and above cite, passed on from one place. Declares nothing.
pub use Rattle.std.proofs.Common.{Bool, IsSome, IsTrue, List, None, Option, Ordering, Some, [], ap, append-nil, append_assoc, arith, cond, drop, false, flat_map, inl, inr, is_some, le-leb, length}
pub use Rattle.std.proofs.Common.{map, min, option_to_list, refl, reverse, rules, slice_get, subst, suc, sym, take, take_all, true, w8, zero, ℕ, ◌++◌, ◌+◌, ◌-◌, ◌<◌, ◌∙◌, ◌∷◌, ◌≡◌, ◌≤◌}
pub use Rattle.std.proofs.Math.Facts.{Fits-of_lt}
pub use Rattle.std.proofs.lemmas.Bool.{lt-leb}
pub use Rattle.std.proofs.lemmas.List.{length-map, length-reverse}
pub use Rattle.std.proofs.lemmas.Option.{slice_get-map}
pub use Rattle.std.specs.Iterator.{item_count}
pub use Rattle.tree_array.proofs.Common.{Arrivals, Walk, all_map, arrival, len_small, limit}
pub use Rattle.tree_array.specs.Walk.{Steps, StepsOver, place_ahead, standing}
pub use Rattle.tree_leaf.proofs.Along.{all_along, first_along, step_takes}
pub use Rattle.tree_leaf.proofs.ChainCommon.{Back, LeafWalk, On, Way, first_of, next_place}
pub use Rattle.tree_leaf.proofs.Steps.{same_place}
pub use Rattle.tree_leaf.specs.Walks.{first_on}
pub use Rattle.tree_model.proofs.Common.{AllByRecursion, MakesProgress, along, flat_map-append, reverse-append, reverse-reverse, reverse_onto}
pub use Rattle.tree_node.proofs.Common.{ContainsKey, IsChain, IsRetiredNode, LeafOf, Slab, StandsOrRetired, TreeArenas, entries_of, fits, get, in_turn, keyed, leaf_entries, leaves_at, leaves_of}
pub use Rattle.tree_node.proofs.Common.{unbounded}
pub use Rattle.tree_node.proofs.Levels.{no_leaves, node_at, over_leaves, over_nodes, stands_unless}
pub use Rattle.tree_node.proofs.Lists.{all_middle}
pub use Rattle.tree_node.proofs.Spares.{least-then}
pub use Rattle.tree_node.proofs.Whole.{spare_standing}
pub use Rattle.tree_node.specs.Shape.{leaf_spare, least, spare_for}
pub use Rattle.tree_node.specs.declared.branch.BranchOf.{BranchOf}
pub use Rattle.tree_node.specs.declared.node.NodeOf.{NodeOf}
pub use Rattle.tree_node.specs.declared.node.NodeOf.TheVariants.{Internal, Leaf}
pub use Rattle.tree_parts.specs.Children.{IsOverKeyed, all_children, keyed_children, to_come}
pub use Rattle.tree_parts.specs.Ends.{BeginsPart, FindsFirst, IsFirstOn, IsLinked, passed}
