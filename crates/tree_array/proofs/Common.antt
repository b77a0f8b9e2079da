-- The names that most proofs here and above cite, passed on from one place. Declares nothing.
pub use Rattle.std.proofs.lemmas.Bool.{false_from_ne_true}
pub use Rattle.std.proofs.lemmas.List.{get_or-replicate, places, same_from_push, length-map, get_or-map, same_lists, length-replicate, map-id}
pub use Rattle.std.proofs.lemmas.List.FromFn.{fill_by_all, length-range_with_len, get_or-map-range_with_len, get_or-range_with_len, length-map-range_with_len, map-range_with_len_more}
pub use Rattle.std.proofs.lemmas.Option.{none-some, slice_get_within, same_Some, get_or_from_slice_get}
pub use Rattle.std.proofs.lemmas.Simd.{map-map, splat_is_map}
pub use Rattle.std.specs.List.{range_with_len}
pub use Rattle.tree_array.specs.Arrivals.{Arrivals, arrival, reachable, in_order, sorted, spend, ascents, removed, spent_at, free, least_from, boundary, stored, is_empty, drained, numbered}
pub use Rattle.tree_array.specs.Arrivals.{slots_in_order, cut_at, without_range, with_val}
pub use Rattle.tree_array.specs.Insertion.{HasRoom, IsFull, IsStored, IsStore}
pub use Rattle.tree_array.specs.Length.{IsLen, limit}
pub use Rattle.tree_array.specs.Runs.{IsRun, gathered}
pub use Rattle.tree_array.specs.Sound.{IsSound}
pub use Rattle.tree_array.specs.View.{seen, shown, IsArray}
pub use Rattle.tree_array.specs.Walk.{Walk, Steps, StepsOver, next_place, place_ahead, places_behind, places_left, standing}
pub use Rattle.tree_array.specs.declared.answers.RemoveResult.{RemoveResult}
pub use Rattle.tree_array.specs.declared.answers.RemoveResult.TheVariants.{Success, Fail, Retired}
pub use Rattle.tree_array.specs.declared.answers.StoreResult.{StoreResult}
pub use Rattle.tree_array.specs.declared.answers.StoreResult.TheVariants.{Full, New, Replaced, Duplicate}
pub use Rattle.tree_cells.proofs.Lemmas.{arrival-all, before_last, before_two, in_some, last_field, ordinals_of, IsTabled, held, length-held, HasKey, set_at, within, HasInTurn, listed_at}
pub use Rattle.tree_cells.proofs.Lemmas.{place_stands, IsPlace, one_arrival, none_tabled, added, IsSetAt, its_pair, HasLeft, left_more, left_on, cases_option, places_apart, all-reachable}
pub use Rattle.tree_cells.proofs.Lemmas.{same_slots, sorted_held, reachable_few, some_of, counted_all, before_none, key_found, pair_at-sorted, values-sorted, with_values, early}
pub use Rattle.tree_cells.proofs.Lemmas.{stands, all_before, held_is, in_order_as, entries-cut, entries-spend, all_spent, none_replicated, picked-map, each_arrival, Parts, picked_same}
pub use Rattle.tree_cells.proofs.Lemmas.{others, moved, spent, arrival-picked, made_early, replaced}
pub use Rattle.tree_cells.specs.declared.search.Place.TheVariants.{Before}
pub use Rattle.tree_model.proofs.Ascending.{without_first}
pub use Rattle.tree_model.proofs.Common.{IsTotalOrder, nat_tests, cases_lt, without, cases_eq, drop_all, AllByRecursion, tied_back, IsAscending, false≢true, nil_from_length, IsAbsent}
pub use Rattle.tree_model.proofs.Common.{pair_at, Bound, tied_itself, cut, alike_right, map-append, ⊤, MakesProgress}
pub use Rattle.tree_model.proofs.Histories.{history_grows}
pub use Rattle.tree_model.proofs.Lengths.{length-put, without_absent, without_few}
pub use Rattle.tree_model.proofs.Lists.{all_map, all-append, filter_none, filter_all, all-filter, all_at, find_none, filter_same}
pub use Rattle.tree_model.proofs.LookUps.{equal_from_test, absent_beyond, put_beyond}
pub use Rattle.tree_model.proofs.Order.{greater_from_less, less_from_greater, alike, alike_after}
pub use Rattle.tree_cells.proofs.OrderCommon.{length-picked, len_small, named, names, picked, is_retired, length-names, IsOrder, live, named_at, slice_get-names, inserted, ordinal_in, rises_in}
pub use Rattle.tree_cells.proofs.OrderCommon.{renamed, picked-next, taken_out}
pub use Rattle.tree_model.specs.declared.way.Way.{Way}
pub use Rattle.tree_model.specs.declared.way.Way.TheVariants.{Back, On}
