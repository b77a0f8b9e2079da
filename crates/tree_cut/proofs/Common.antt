-- The names that the proofs here cite, passed on from one place. Declares nothing.
pub use Rattle.slab.specs.Slab.{slab_len}
pub use Rattle.std.proofs.Common.{sub-one, add-one, ◌≡◌, ◌≢◌, ℕ, zero, suc, ◌+◌, ◌-◌, ◌<◌, Bool, true, false, is_some, MatchOption, Option, List, [], ◌∷◌, ◌++◌, map, take, drop, length, slice_get, Some, None, refl, sym, ◌∙◌, arith, flat_map, Ordering, append-nil, length-take-le, ◌≤◌, length-append, IsSome, ap, not, take_all, cond, filter, inl, inr, Less, is_le, take-append-drop, append_assoc, ◌*◌, ◌^◌, length-take, ◌⊎◌, rules}
pub use Rattle.std.proofs.Math.Nat.{mul-le-mul_left}
pub use Rattle.std.proofs.lemmas.Cmp.{back_total}
pub use Rattle.std.proofs.lemmas.List.{drop_at, take_at, take-take}
pub use Rattle.std.proofs.lemmas.List.Filters.{length-filter_both}
pub use Rattle.std.proofs.lemmas.Option.{slice_get_within, slice_get-map, slice_get_cases}
pub use Rattle.tree_array.proofs.Common.{all-filter, arrival, filter_all, filter_none}
pub use Rattle.tree_array.specs.Arrivals.{without_range}
pub use Rattle.tree_clean_up.specs.Places.{BeginsAt, EndsAt, Narrows, keyed_or}
pub use Rattle.tree_clean_up.proofs.Drops.{part_dropped, frees_both, frees_lost, frees_none}
pub use Rattle.tree_clean_up.proofs.Siblings.{LosesKeyed, Siblings, loses_keyed, siblings}
pub use Rattle.tree_clean_up.specs.CleanUps.{FreesIn, TakesKeyed}
pub use Rattle.tree_cut.specs.Cuts.{CutsAt, CutsUnder, HasNoEmpty, HasPair, HasNoEmptyBut, keyed_of}
pub use Rattle.tree_cut.specs.Parts.{Frees, IsAt, IsEnd, StandsOnce, part_id}
pub use Rattle.tree_cut.specs.declared.dropping.End.{End}
pub use Rattle.tree_cut.specs.declared.dropping.End.TheVariants.{First, Last}
pub use Rattle.tree_cut.specs.declared.parts.Part.{Part}
pub use Rattle.tree_cut.specs.declared.parts.Part.TheVariants.{Leaf, Node}
pub use Rattle.tree_leaf.proofs.Chains.{chain_used, next_used, prev_used, same_array_uses}
pub use Rattle.tree_leaf.proofs.Pigeonhole.{once_fits}
pub use Rattle.tree_leaf.specs.Links.{Splices}
pub use Rattle.tree_model.proofs.Ascending.{IsAscending-cut, less_from_test}
pub use Rattle.tree_model.proofs.Common.{Bound, Unbounded, cut, drop_all, filter-append, nil_from_length, within, bound_map}
pub use Rattle.tree_model.proofs.Lists.{all_at, all_passed}
pub use Rattle.tree_model.specs.Pairs.{meets_lower, meets_upper}
pub use Rattle.tree_node.proofs.Bounds.{entries_few}
pub use Rattle.tree_node.proofs.Common.{Arrivals, IsLen, all-append, all_map, AllByRecursion, IsTotalOrder, cases_eq, flat_map-append, AreParted, cases_Bool, HasKind, IsAbove, IsChain, IsPart, IsRetired, IsRetiredNode, IsUpTo, KeepsBounds, LeafOf, Loses, Replaces, Slab, Stands, TreeArenas, children_of, fits, get, in_turn, keyed, leaves_at, leaves_of, node_children, nodes_at, nodes_of, same_array_refl, times, times-append, times-cons, unbounded, uses, uses_le_one, walk, Agrees, parted_map, stands_each, all_yes, node_is, node_kept, length-map, walk-leaf, same_leaves, same_nodes, same_stands, same_walk, stay, all_middle, less_upto, walk_above, walk_up_to, agrees_below, agrees_here, all_front, walk-children, no_children}
pub use Rattle.tree_node.proofs.Cuts.{cut_whole, cut_with}
pub use Rattle.tree_node.proofs.Frames.{all_both}
pub use Rattle.tree_node.proofs.LeafWrites.{with_array, here_now, array_replaces}
pub use Rattle.tree_node.proofs.Levels.{children_stand, retired_at, retired_walk}
pub use Rattle.tree_node.proofs.Lifts.{child_placed, node_stays, leaves_once_in}
pub use Rattle.tree_node.proofs.Places.{first_child, later_children, child_between, high_at, low_at}
pub use Rattle.tree_node.proofs.Steps.{part_after, replaces_trans, replaces_refl}
pub use Rattle.tree_node.proofs.Walks.{parted_within, walk_within}
pub use Rattle.tree_node.specs.Tree.{NodeStands}
pub use Rattle.tree_node.specs.declared.node.NodeOf.{NodeOf}
