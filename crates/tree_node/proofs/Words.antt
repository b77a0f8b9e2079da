-- The names of the layers below and of this one's definitions that proofs here cite, passed on from one place. Declares nothing.
pub use Rattle.slab.proofs.SlabLemmas.{Updates-with_value}
pub use Rattle.slab.specs.Slab.{ContainsKey, Slab, Updates, get, slab_len, with_value}
pub use Rattle.std.proofs.lemmas.Bool.{cases_Bool}
pub use Rattle.std.proofs.lemmas.List.{drop_more, length-map}
pub use Rattle.std.proofs.lemmas.Option.{get_or_from_slice_get, same_Some, slice_get_cases, slice_get_within}
pub use Rattle.tree_array.proofs.Common.{Arrivals, HasRoom, IsLen, IsSound, alike, alike_after, all-append, all_map, arrival, before_last, before_two, boundary, filter_all, filter_none, free, greater_from_less, in_order, in_some, last_field, least_from, less_from_greater, limit}
pub use Rattle.tree_leaf.proofs.Chains.{linked_kept, linked_right, neighbours, same_array_refl, same_array_trans}
pub use Rattle.tree_leaf.proofs.Counts.{in_use, none_here, one_here, times-append, times-cons, times-nil, uses_le_one, uses_none, uses_same, uses_some}
pub use Rattle.tree_leaf.proofs.Pigeonhole.{once_fits}
pub use Rattle.tree_leaf.specs.Arena.{IsEmpty, KeepsBoth, Loses}
pub use Rattle.tree_leaf.specs.Chain.{AreLinked, IsBetween, IsChain, SameArray, first_or, last_or}
pub use Rattle.tree_leaf.specs.Entries.{entries_of, found_entries, leaf_entries}
pub use Rattle.tree_model.proofs.Ascending.{IsAscending-append, all_above, greater_from_test}
pub use Rattle.tree_model.proofs.Common.{AllLarger, IsAbsent, IsAscending, IsTotalOrder, above, below, cases_eq, filter-append, flat_map-append, map-append, nat_tests, pair_at, put, without}
pub use Rattle.tree_node.specs.Arenas.{AllByRecursion, Internal, Leaf, LeafOf, Less, NodeOf, Ordering, TreeArenas, times, uses}
pub use Rattle.tree_node.specs.Parts.{IsPart, KeepsBounds, LeadsOutside, Replaces, StandsApart, Unchanged}
pub use Rattle.tree_node.specs.Shape.{found_free, found_keyed, found_room, held, leaf_spare, least, room, spare, spare_for}
pub use Rattle.tree_node.specs.Tree.{AreParted, HasChildFor, HasKind, IsAbove, IsBelow, IsOfLevel, IsRetired, IsRetiredNode, IsUpTo, NodeStands, Stands, StandsOrRetired, back_at, child_at, child_of, children_of, front_at, in_turn, is_from, keyed, leaves_at, leaves_of, node_children, nodes_at, nodes_of, unbounded, walk}
pub use Rattle.tree_node.specs.Whole.{HasNoOther, HasOnly, IsRetiredRoot, IsTop, IsTree, leaves_under, nodes_under, root_at, spare_under, walk_under}
pub use Rattle.tree_node.specs.declared.branch.BranchOf.{BranchOf}
pub use Rattle.tree_node.specs.declared.node.Root.{Root}
