-- The names that most proofs here and above cite, passed on from one place. Declares nothing.
pub use Rattle.std.proofs.Common.{Bool, Bor, Equal, Greater, Less, List, None, Option, Ordering, Some, [], ap, append-nil, append_assoc, arith, drop, false, if◌then◌else◌, inl, inr, is_eq, is_le}
pub use Rattle.std.proofs.Common.{is_lt, is_some, le-leb, length, map, not, option_map, refl, reverse, slice_get, suc, sym, true, vec_capacity, vec_len, zero, ℕ, ◌++◌, ◌+◌, ◌-◌, ◌<◌, ◌==◌, ◌∙◌}
pub use Rattle.std.proofs.Common.{◌∷◌, ◌≡◌, ◌≤◌, ◌⊎◌}
pub use Rattle.std.proofs.Math.ListN.{drop_of_length-le}
pub use Rattle.std.proofs.lemmas.Bool.{and_parts, and_right, both_ways, cases_Bool, false_from_ne_true, lt-leb}
pub use Rattle.std.proofs.lemmas.Grind.{common_steps}
pub use Rattle.std.proofs.lemmas.List.{drop-take, length-reverse, take-append-le}
pub use Rattle.std.proofs.lemmas.Option.{slice_get_cases, slice_get_within}
pub use Rattle.std.specs.Iterator.{at_most}
pub use Rattle.std.specs.Ordering.{ordering_reverse}
pub use Rattle.tree_array.proofs.Common.{all-append, all_map, filter_none}
pub use Rattle.tree_leaf.proofs.Along.{all_ahead, all_along, all_left, first_place, first_step, step_takes}
pub use Rattle.tree_leaf.proofs.ChainCommon.{Back, LeafWalk, On, Steps, Way, next_place}
pub use Rattle.tree_leaf.specs.Walks.{first_on, here, stood_on}
pub use Rattle.tree_array.specs.Walk.{StepsOver}
pub use Rattle.tree_leaf.specs.Ways.{ahead}
pub use Rattle.tree_cursors.proofs.EndPairs.{end_inside, placed_in, root_stands}
pub use Rattle.tree_cursors.proofs.Places.{places_compare}
pub use Rattle.tree_cursors.specs.Seek.{NoneMeets, Seeks}
pub use Rattle.tree_cursors.specs.View.{EndStands, Kept, end_of, pair_of, seen}
pub use Rattle.tree_cursors.specs.declared.end.End.TheVariants.{At, Exhausted, Unopened}
pub use Rattle.tree_model.proofs.Common.{AllByRecursion, AllLarger, Bound, Cursor, End, Included, IsAscending, IsTotalOrder, MakesProgress, Moves, Unbounded, along, at_place, below, cases_lt}
pub use Rattle.tree_model.proofs.Common.{element_at, greatest_place, lent, lent_entry, map-append, meets, nat_tests, next_end, opposite, pair_at, reverse-append, reverse-reverse, reverse_onto, shown}
pub use Rattle.tree_model.proofs.Common.{unopened, ⊤}
pub use Rattle.tree_model.proofs.Lists.{all_at}
pub use Rattle.tree_model.proofs.LookUps.{none_larger}
pub use Rattle.tree_model.specs.Cursor.{are_apart, bound_on, can_flip, can_turn, end_at, end_on, exhausted, flipped, is_unopened, least_place, moved, option_where, place_beside, shown_apart, turned}
pub use Rattle.tree_model.specs.Cursor.{with_end, with_ends}
pub use Rattle.tree_model.specs.Located.{located, located_at}
pub use Rattle.tree_model.specs.Moves.{AllNone, Ended, Told, after, after_all, answer, answers, move_on, pair, told}
pub use Rattle.tree_model.specs.Rest.{StandsInside, StandsWhere, between, from_end, piece, until_end}
pub use Rattle.tree_model.specs.declared.moves.Move.{Move}
pub use Rattle.tree_model.specs.declared.moves.Move.TheVariants.{Flip, Get, GetBack, Next, NextBack}
pub use Rattle.tree_model.specs.declared.proximity.ProximityOf.{ProximityOf}
pub use Rattle.tree_model.specs.declared.proximity.ProximityOf.TheVariants.{Between, Empty, Exact, Larger, Smaller}
pub use Rattle.tree_node.proofs.Common.{IsTree, StandsOrRetired, TreeArenas, fits, get, walk, walk_under}
pub use Rattle.tree_node.proofs.Standing.{no_children}
pub use Rattle.tree_node.proofs.Walks.{walk_ascends}
pub use Rattle.tree_node.specs.declared.node.Root.{Root}
pub use Rattle.tree_cursors.specs.Beside.{is_at, located_beside, located_past}
pub use Rattle.tree_cursors.specs.Ranged.{Flips, IsFresh, IsOpen, end_left, is_new, moves_left, pairs_within, way_of}
pub use Rattle.tree_parts.specs.Ends.{BeginsPart, IsLinked}
