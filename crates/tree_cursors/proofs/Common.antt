-- The names that most proofs here and above cite, passed on from one place. Declares nothing.
pub use Rattle.std.proofs.Common.{Bool, Bor, Greater, Less, List, MatchOption, None, Option, Ordering, Some, [], ap, append-nil, append_assoc, arith, drop, false, inl, inr, is_lt, length}
pub use Rattle.std.proofs.Common.{length-append, length-drop, length-take, ltb, refl, reverse, rules, slice_get, suc, sym, take, true, zero, ℕ, ◌++◌, ◌+◌, ◌<◌, ◌==◌, ◌∙◌, ◌∷◌, ◌≡◌, ◌⊎◌}
pub use Rattle.std.proofs.lemmas.List.{length-reverse}
pub use Rattle.std.proofs.lemmas.Option.{slice_get_within}
pub use Rattle.tree_array.proofs.Common.{all-append, all_map, greater_from_less}
pub use Rattle.tree_leaf.proofs.Along.{all_ahead, all_along, all_reversed}
pub use Rattle.tree_leaf.proofs.ChainCommon.{LeafWalk, Steps, beyond, standing}
pub use Rattle.tree_leaf.proofs.Rests.{count_falls, count_left, stands_on, took}
pub use Rattle.tree_leaf.specs.Rest.{HasTaken, StandsIn, Takes, left_of}
pub use Rattle.tree_leaf.specs.Walks.{here, stood_on}
pub use Rattle.tree_array.specs.Walk.{places_left}
pub use Rattle.tree_leaf.specs.Ways.{ahead}
pub use Rattle.tree_cursors.specs.Seek.{IsNearest, NoneMeets, Opens, Seeks, path}
pub use Rattle.tree_cursors.specs.View.{EndStands, GoesTo, Stands, StepsInLeaf, end_of, place_at, place_in, place_of}
pub use Rattle.tree_cursors.specs.declared.end.End.{End}
pub use Rattle.tree_cursors.specs.declared.end.End.TheVariants.{At, Exhausted, Unopened}
pub use Rattle.tree_node.specs.Ways.{IsLeafFor}
pub use Rattle.tree_leaf.proofs.Chains.{counted}
pub use Rattle.tree_model.proofs.Common.{AllByRecursion, Bound, Excluded, Included, IsAscending, IsTotalOrder, along, at_place, bound_map, cases_eq, flat_map-append, greatest_place, lent_entry, meets}
pub use Rattle.tree_model.proofs.Common.{nat_tests, next_end, reverse-append, reverse-reverse, reverse_onto, tied_itself, unopened}
pub use Rattle.tree_model.proofs.Lists.{all_at}
pub use Rattle.tree_model.specs.Cursor.{exhausted, first_place, least_place, place_beside}
pub use Rattle.tree_model.specs.Rest.{StandsInside}
pub use Rattle.tree_model.specs.declared.way.Way.{Way}
pub use Rattle.tree_model.specs.declared.way.Way.TheVariants.{Back, On}
pub use Rattle.tree_node.proofs.Common.{IsChain, IsTree, LeafOf, Slab, StandsOrRetired, TreeArenas, entries_of, fits, leaf_entries, leaves_at, leaves_under, one_here, root_at, times}
pub use Rattle.tree_node.proofs.Common.{times-cons, uses_le_one, walk, walk_under}
pub use Rattle.tree_node.proofs.Levels.{retired_walk}
pub use Rattle.tree_node.specs.declared.node.Root.{Root}
pub use Rattle.tree_parts.proofs.EndWalks.{leaf_in_chain}
pub use Rattle.tree_parts.specs.Ends.{BeginsPart, IsLinked, passed}
