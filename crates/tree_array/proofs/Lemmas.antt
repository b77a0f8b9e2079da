-- The lemmas that the answers here and the proofs above cite, passed on from one place. Declares nothing.
pub use Rattle.std.proofs.Common.{refl, arith, ◌∙◌, rules, sym, ◌≡◌, ap, ◌-◌, ◌≤◌, ℕ, List, ◌+◌, ◌<◌, None, Some, subst, Option, Ordering, true, slice_get, length, drop, length-drop}
pub use Rattle.std.proofs.Common.{take_all, take, ◌*◌, ◌/◌, leb, w8, false, Equal, IsSome, [], ◌∷◌, ◌++◌, reverse, add-one, is_lt, is_gt, set, inl, inr}
pub use Rattle.std.proofs.Math.Facts.{Fits-of_lt}
pub use Rattle.std.proofs.lemmas.Bool.{true_from_ne_false}
pub use Rattle.std.proofs.lemmas.Option.{slice_get_past}
pub use Rattle.tree_array.proofs.Common.{same_from_push, len_small, length-names, nat_tests, same_Some, its_pair, named_at, drop_all, nil_from_length, IsTotalOrder, arrival, names, held}
pub use Rattle.tree_array.proofs.Common.{stands, absent_beyond, in_order, HasLeft, least_from, Arrivals, IsPlace, early, length-replicate, none_replicated, none_tabled, none-some, tied_back}
pub use Rattle.tree_array.proofs.Common.{length-held, spent, tied_itself, HasKey, places_apart, standing, places_behind, named, alike_right, without, spend, removed, is_empty, filter_same}
pub use Rattle.tree_array.proofs.Common.{cases_lt, IsArray, set_at, within, is_retired, taken_out, IsOrder, live}
pub use Rattle.tree_array.proofs.Dealt.{parted}
pub use Rattle.tree_array.proofs.Kept.{fields, count_seen, arrival_seen, kept, entries_seen, reachable_seen, made_seen, place_seen, found_seen, none_seen, is_stored, named_few, empty_iff}
pub use Rattle.tree_array.proofs.Kept.{AreFields, rises_seen, listed_seen, slots_seen}
pub use Rattle.tree_array.proofs.Moved.{emptied_fields, none_new, emptied_all, left_stands, emptied_more, emptied_run, in_turn_run}
pub use Rattle.tree_array.proofs.Ranges.{cut_none, cut_kept, cut_taken, cut_all, kept_outside, IsCutTo}
pub use Rattle.tree_array.proofs.Runs.{first_run, length_run, first_there, pushed}
pub use Rattle.tree_array.proofs.Seen.{same_arrays, spend_seen}
pub use Rattle.tree_array.proofs.Stepped.{before, behind_few, stepped_back, goes_on, stepped_on}
pub use Rattle.tree_array.proofs.Stored.{room_from_not_full, parts_behind, added_fields, moved_fields, parts_before, valued}
pub use Rattle.tree_array.specs.Walk.{IsOver}
pub use Rattle.tree_cells.proofs.Lemmas.{from_place, stands_some, none_left, steps, split_at, slot_of, least_of, live_some, live_none, searched_few, IsInOrder}
pub use Rattle.tree_model.proofs.Common.{bound_map, reverse-append}
