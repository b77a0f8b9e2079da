-- The names of the layers below and of this one's definitions that proofs here cite, passed on from one place. Declares nothing.
pub use Rattle.std.proofs.lemmas.Bool.{and_parts, cases_lt, eq-eqb, eqb-true, le-leb, lt-leb, not-true}
pub use Rattle.std.specs.Cmp.Derive.{both_true}
pub use Rattle.tree_array.proofs.Common.{IsFull, alike, alike_after, ascents, before_last, in_some, last_field, reachable, sorted, spend, spent_at, stored}
pub use Rattle.tree_array.specs.Arrivals.{boundary_of}
pub use Rattle.tree_leaf.proofs.Chains.{same_array_uses}
pub use Rattle.tree_model.proofs.Ascending.{all_above, less_from_test}
pub use Rattle.tree_model.proofs.Common.{tied_back, tied_itself, ⊤}
pub use Rattle.tree_model.proofs.LookUps.{equal_from_test, larger_trans, put_beyond}
pub use Rattle.tree_node.proofs.ChildChanges.{child_part, fronts, same_node}
pub use Rattle.tree_node.proofs.Common.{Agrees, AllByRecursion, AllLarger, AreParted, Arrivals, ContainsKey, HasChildFor, HasKind, HasRoom, IsAbove, IsAbsent, IsAscending, IsBelow, IsChain, IsLen, IsPart, IsSound, IsTotalOrder, IsUpTo, KeepsBounds, LeafOf, Replaces, Slab, Stands, Stay, TreeArenas, Unchanged, Updates, Updates-with_value, above_next, agree_each, agrees_below, agrees_here, all-append, all_behind, all_front, all_map, all_yes, boundary, cases_Bool, cases_eq, child_at, child_is, children_of, fits, flat_map-append, found_keyed, free, front_at, get, head_here, held, in_order, in_use, inner_kind, is_from, keyed, last_free, leaf_entries, leaves_of, length-map, less_upto, limit, map-append, nat_tests, node_is, node_kept, node_made, nodes_of, none_here, one_here, only_child, outer_kind, parted_map, room, root_at, same_array_refl, same_stands, same_walk, single_nodes, spare, stands_each, stands_free, stay, times, times-append, times-cons, unbounded, upto_from_less, uses, uses_le_one, uses_none, uses_same, uses_some, walk, walk-children, walk-leaf, walk_above, walk_under, with_value}
pub use Rattle.tree_node.proofs.Cuts.{cut_whole}
pub use Rattle.tree_node.proofs.LeafSpares.{spare_anew, spare_beside}
pub use Rattle.tree_node.proofs.LeafWrites.{array_replaces, here_now, updated, with_array}
pub use Rattle.tree_node.proofs.Lifts.{Lifted, child_lifts, child_placed, leaves_once_in, lifts, node_stays}
pub use Rattle.tree_node.proofs.Places.{IsAt, IsForKey, child_between, children_around, children_put, chosen_past, high_at, high_for, later_children, low_at, low_for, parted_low, place_for, place_of, routed_by, separator_absent, separator_put, separators_beside}
pub use Rattle.tree_node.proofs.Spares.{spares-append, spares-cons, spares-single, spares_same}
pub use Rattle.tree_node.proofs.Unchanged.{chain_same, unchanged_agrees, unchanged_by_keeping, unchanged_replaces}
pub use Rattle.tree_node.specs.Changes.{RebuildsNode}
pub use Rattle.tree_node.specs.Parts.{PutsChild}
pub use Rattle.tree_node.specs.Shape.{found_room}
pub use Rattle.tree_node.specs.declared.node.NodeOf.{NodeOf}
pub use Rattle.tree_split.specs.Packed.{HasLast, IsPacked, IsPackedLeaf, IsPackedNode, all_full, in_turn, is_packed_array, last_packed, leaf_packed, node_packed, packed_at, packed_under}
pub use Rattle.tree_split.specs.Splits.{GivesAll, GivesFirst, HasMadeRoom, IsCut, KeepsPacked, SharesChildren, SharesEntries, SplitsChild, all_smaller, is_at, is_last, leaf_part, low_part}
