-- The names that most proofs here and above cite, passed on from one place. Declares nothing.
pub use Rattle.tree_node.proofs.Words.{get, ContainsKey, Slab, Updates, with_value, slab_len, same_array_refl, linked_kept, same_array_trans, in_use, one_here, times-cons, uses_le_one, times-append, times-nil, none_here, uses_some, uses_same, uses_none, Loses, IsEmpty, KeepsBoth, IsChain, SameArray, IsBetween, AreLinked, first_or, leaf_entries, entries_of, found_entries, TreeArenas, times, uses, LeafOf, NodeOf, Leaf, Internal, IsPart, Replaces, Unchanged, KeepsBounds, room, spare, held, found_free, found_keyed, leaf_spare, least, spare_for, found_room, Stands, walk, keyed, leaves_at, unbounded, IsRetired, HasChildFor, children_of, StandsOrRetired, AreParted, nodes_at, IsRetiredNode, is_from, leaves_of, HasKind, in_turn, IsAbove, child_of, node_children, child_at, IsBelow, IsOfLevel, nodes_of, IsUpTo, front_at, back_at, IsRetiredRoot, IsTree, walk_under, leaves_under, root_at, IsTop, nodes_under, spare_under, HasNoOther, HasOnly, BranchOf, Root, cases_Bool, length-map, Updates-with_value, all-append, all_map, Arrivals, boundary, free, HasRoom, in_order, IsLen, IsSound, limit, arrival, greater_from_less, least_from, less_from_greater, AllByRecursion, AllLarger, cases_eq, flat_map-append, IsAbsent, IsAscending, IsTotalOrder, map-append, nat_tests, put, last_or, linked_right, neighbours, LeadsOutside, StandsApart, once_fits, same_Some, greater_from_test}
pub use Rattle.tree_node.proofs.Sizes.{fits}
pub use Rattle.tree_node.proofs.Children.{all_stand, child_stands, last_free, leaf_there, node_there, only_child, stands_over, walk-leaf}
pub use Rattle.tree_node.proofs.Cuts.{all_behind, all_front}
pub use Rattle.tree_node.proofs.Frames.{Agrees, Stay, agree_each, agrees_below, agrees_here, each_of, head_here, parted_all, parted_map, same_leaves, same_nodes, same_stands, same_walk, single_leaves, single_nodes, stands_each, stay}
pub use Rattle.tree_node.proofs.Lists.{all_middle, all_yes, flat_map_same, flat_map-three, found_within}
pub use Rattle.tree_node.proofs.Order.{less_from_test, less_upto, upto_from_less, upto_from_test, upto_less}
pub use Rattle.tree_node.proofs.Standing.{inner_kind, no_children, node_is, node_kept, node_made, outer_kind}
pub use Rattle.tree_node.proofs.Walks.{above_next, child_is, children_are, up_to_next, walk-children, walk_above, walk_up_to}
pub use Rattle.tree_node.proofs.Widens.{below_next, separators_around, stands_free}
pub use Rattle.tree_node.proofs.Between.{found_between, put_between}
