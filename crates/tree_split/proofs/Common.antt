-- The names that proofs of the two splits cite, passed on from one place. Declares nothing.
pub use Rattle.tree_split.proofs.Words.{same_array_uses, tied_back, ⊤, alike, alike_after, child_part, ContainsKey, fits, inner_kind, outer_kind, Agrees, AllByRecursion, AllLarger, AreParted, Arrivals, HasChildFor, HasKind, HasRoom, IsAbove, IsAbsent, IsAscending, IsBelow, IsChain, IsLen, IsPart, IsSound, IsTotalOrder, IsUpTo, LeafOf, Replaces, Stands, Stay, TreeArenas, Updates, Updates-with_value, above_next, agree_each, agrees_here, all-append, all_behind, all_front, all_map, boundary, cases_Bool, cases_eq, child_at, child_is, children_of, flat_map-append, get, in_order, in_use, is_from, keyed, leaf_entries, leaves_of, length-map, less_upto, limit, map-append, node_is, node_made, nodes_of, none_here, one_here, parted_map, room, same_array_refl, single_nodes, spare, stands_each, stay, times, times-append, times-cons, unbounded, upto_from_less, uses, uses_le_one, uses_none, uses_same, uses_some, walk, walk-children, walk-leaf, with_value, cut_whole, spare_anew, spare_beside, array_replaces, here_now, updated, with_array, child_placed, IsAt, IsForKey, children_around, chosen_past, high_for, later_children, low_for, place_for, place_of, spares-append, spares_same, chain_same, unchanged_by_keeping, unchanged_replaces, RebuildsNode, PutsChild, HasLast, IsPacked, GivesAll, GivesFirst, HasMadeRoom, IsCut, KeepsPacked, SharesChildren, SharesEntries, SplitsChild, is_at, is_last, leaf_part, low_part, ascents, reachable, sorted, boundary_of, all_above, larger_trans, nat_tests, and_parts, cases_lt, eq-eqb, eqb-true, le-leb, lt-leb, both_true, root_at, Unchanged, all_yes, found_keyed, walk_under, NodeOf, unchanged_agrees, IsPackedLeaf, IsPackedNode, all_full, is_packed_array, last_packed, leaf_packed, node_packed, packed_at, packed_under}
pub use Rattle.tree_split.proofs.Arrays.{packed_boundary, packed_in_order}
pub use Rattle.tree_split.proofs.Edges.{counts_same, edge_below, edge_of, full_length, last_child, last_for, one_last, same_packed, packed_bound}
pub use Rattle.tree_split.proofs.LowSplits.{PartsChild, SplitsLow, absent_here, changed, entries_now, gains_low, last_now, last_place, packed_split, stays}
pub use Rattle.tree_split.proofs.PackedSplits.{all_given, all_held, one_power}
pub use Rattle.tree_split.proofs.Rebuilds.{leaf_rebuilt, node_rebuilt, room_made_by_rebuild, same_children, split_by_rebuild}
pub use Rattle.tree_split.proofs.Fulls.{full_room, not_full_room}
pub use Rattle.tree_split.proofs.Results.{on_err}
pub use Rattle.tree_split.proofs.Variants.{children_fit}
