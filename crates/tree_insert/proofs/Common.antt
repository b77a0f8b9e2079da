-- The names that most proofs here cite, passed on from one place. Declares nothing.
pub use Rattle.std.proofs.Common.{Bool, Err, IfOk, IsSome, Less, List, None, Ok, Option, Ordering, Result, Some, [], add-one, ap, append-nil, arith, cond, false, inl, inr, is_some, length}
pub use Rattle.std.proofs.Common.{length-append, min, refl, rules, sub-one, suc, sym, true, unwrap_or, zero, ℕ, ◌++◌, ◌+◌, ◌-◌, ◌<◌, ◌==◌, ◌∙◌, ◌∷◌, ◌≡◌, ◌≢◌, ◌≤◌, ◌⊎◌}
pub use Rattle.std.proofs.lemmas.Result.{on_err_weaker}
pub use Rattle.std.specs.Result.{OnErr}
pub use Rattle.tree_array.proofs.Common.{IsFull, all-filter, spend, spent_at}
pub use Rattle.tree_array.specs.Insertion.{IsInsert, IsStore, IsStored}
pub use Rattle.tree_array.specs.declared.answers.StoreResult.{StoreResult}
pub use Rattle.tree_array.specs.declared.answers.StoreResult.TheVariants.{Duplicate, Full, New, Replaced}
pub use Rattle.tree_node.proofs.Ways.{below_part, part_not_retired, part_on_way}
pub use Rattle.tree_node.specs.Ways.{LeadsTo}
pub use Rattle.tree_insert.specs.Inserts.{HasToDivide, Inserts, InsertsUnder, IsNew, asks_split, declined, refused, stores}
pub use Rattle.tree_insert.specs.Roots.{RaisesRoot}
pub use Rattle.tree_leaf.specs.Arena.{Gains, HasPlaces, KeepsBoth}
pub use Rattle.tree_split.proofs.LeafRooms.{leaf_used}
pub use Rattle.tree_model.proofs.Common.{false≢true, put}
pub use Rattle.tree_node.proofs.Bare.{bare_leaves, bare_nodes, has_only, no_other, over_one, some_slots}
pub use Rattle.tree_node.proofs.ChildChanges.{child_part, new_spare, new_walk, node_replaces, node_stands, old_spare, old_walk, same_node}
pub use Rattle.tree_node.proofs.Common.{Agrees, AllByRecursion, AllLarger, Arrivals, ContainsKey, HasChildFor, HasKind, IsChain, IsLen, IsPart, IsRetired, IsTotalOrder, IsTree, LeafOf}
pub use Rattle.tree_node.proofs.Common.{Slab, Stands, TreeArenas, Unchanged, Updates-with_value, agrees_here, all-append, cases_eq, child_of, children_of, fits, found_free, found_keyed, free}
pub use Rattle.tree_node.proofs.Common.{get, head_here, held, in_order, keyed, leaves_at, limit, nodes_at, none_here, one_here, room, root_at, same_array_refl, same_leaves, same_nodes, same_stands}
pub use Rattle.tree_node.proofs.Common.{same_walk, spare, times, times-cons, times-nil, unbounded, uses, uses_none, uses_same, uses_some, walk, walk-children, with_value}
pub use Rattle.tree_node.proofs.LeafSpares.{leaf_spent, spare_at_least, spare_written}
pub use Rattle.tree_node.proofs.LeafWrites.{array_replaces, here_now, updated, with_array}
pub use Rattle.tree_node.proofs.NodeKinds.{child_inside, inner_level, node_used, not_retired, outer_level, retired_node, some_child}
pub use Rattle.tree_node.proofs.Spares.{same_spare}
pub use Rattle.tree_node.proofs.Steps.{part_after, replaces_trans}
pub use Rattle.tree_node.proofs.Unchanged.{chain_same, unchanged_agrees, unchanged_by_keeping, unchanged_held, unchanged_part, unchanged_replaces, unchanged_room, unchanged_trans}
pub use Rattle.tree_node.proofs.Walks.{back_walk_above, front_walk_below}
pub use Rattle.tree_node.specs.Shape.{IsCrowded, found_spare, leaf_free}
pub use Rattle.tree_node.specs.declared.node.NodeOf.{NodeOf}
pub use Rattle.tree_node.specs.declared.node.NodeOf.TheVariants.{Internal, Leaf}
pub use Rattle.tree_split.proofs.Arrays.{packed_in_order, packed_stored}
pub use Rattle.tree_split.proofs.Edges.{edge_below, last_for, one_last, packed_above, same_packed}
pub use Rattle.tree_split.proofs.Fulls.{none_free}
pub use Rattle.tree_split.proofs.Results.{on_err}
pub use Rattle.tree_split.proofs.Variants.{children_fit}
pub use Rattle.tree_split.specs.Packed.{HasLast, IsPacked}
pub use Rattle.tree_split.specs.Splits.{HasMadeRoom, LacksRoom, RoomResult, SplitsChild}
