-- The lemmas that the answers here and the proofs above cite, passed on from one place. Declares nothing.
pub use Rattle.std.proofs.Common.{rules, arith, refl, ◌≡◌, ◌∙◌, ap, ℕ, Some, length, None, sym, ◌<◌, List, Option, inl, inr, ◌+◌, zero, suc, [], ◌∷◌, set, get_or, IsSome, ◌≢◌, ◌-◌, ◌≤◌}
pub use Rattle.std.proofs.Common.{Ordering}
pub use Rattle.std.proofs.lemmas.List.{set-set, get_or-set_same}
pub use Rattle.tree_cells.proofs.Common.{false≢true, named, zipped, arrival, Held, cases_lt, get_or_past, same_Some, named_later, HasInTurn, HasLeft, AreSlots, IsInOrder, names, IsTabled}
pub use Rattle.tree_cells.proofs.Common.{held, HasKey, IsPlace, IsSetAt, Parts, slot_of}
pub use Rattle.tree_cells.proofs.Entries.{all-reachable, entries-cut, entries-spend, pair_at-sorted, values-sorted, with_values}
pub use Rattle.tree_cells.proofs.Found.{same_slots, sorted_held}
pub use Rattle.tree_cells.proofs.Halving.{end_placed, place_apart, place_equal, beyond_last, halved_down, halved_up, middle_stands, window_equal, window_greater, window_less}
pub use Rattle.tree_cells.proofs.Halving.{searched_few}
pub use Rattle.tree_cells.proofs.LeastFrom.{least_of}
pub use Rattle.tree_cells.proofs.Moves.{within, none_replicated, left_more, none_in_turn, none_left, stands_still, turn_more, left_on}
pub use Rattle.tree_cells.proofs.Picks.{arrival-all, cases_option, reachable_few, some_of, all_spent, picked-map, picked_same, arrival-picked, made_early}
pub use Rattle.tree_cells.proofs.Ranks.{ordinals_of, live_some, live_none, counted_all}
pub use Rattle.tree_cells.proofs.Sides.{from_place, before_none, key_found, all_before, others, split_at}
pub use Rattle.tree_cells.proofs.Sizes.{steps, before_last, before_two, in_some, last_field}
pub use Rattle.tree_cells.proofs.Tabled.{stands_some, length-held, set_at, listed_at, place_stands, one_arrival, none_tabled, added, its_pair, places_apart, early, stands, held_is}
pub use Rattle.tree_cells.proofs.Tabled.{in_order_as, each_arrival, moved, spent, replaced}
pub use Rattle.tree_cells.proofs.Zips.{rows_seen, has_both, is_pair, pair_set, has_none, key_there, val_set, length-zipped, none_seen, val_there, counts_seen, paired_at, rows_alike}
pub use Rattle.tree_cells.proofs.Zips.{AreSeenAs}
pub use Rattle.tree_model.proofs.Ascending.{greater_from_test}
pub use Rattle.tree_cells.proofs.OrderCommon.{IsOrder, len_small}
