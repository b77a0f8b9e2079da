-- The names that most proofs here and above cite, passed on from one place. Declares nothing.
pub use Rattle.std.proofs.lemmas.Bool.{cases_Bool, false_from_ne_true}
pub use Rattle.std.proofs.lemmas.Cmp.{eq_by_cmp_equiv}
pub use Rattle.std.proofs.lemmas.List.{get_or-map, places, same_lists, length-replicate, get_or-replicate, map-id, drop_more, drop_at, drop-map, length-map, length-take-le, take_at, take-map}
pub use Rattle.std.proofs.lemmas.List.{set-get_or}
pub use Rattle.std.proofs.lemmas.List.Elements.{recursion_from_All, Contains-append_cases, Contains-append_left, Contains-append_right}
pub use Rattle.std.proofs.lemmas.List.FromFn.{fill_by_all}
pub use Rattle.std.proofs.lemmas.Option.{slice_get-map, none-some, same_Some, slice_get_within, get_or_from_slice_get, slice_get-get_or}
pub use Rattle.std.specs.Cmp.{nat_cmp_is}
pub use Rattle.std.specs.List.{range_with_len}
pub use Rattle.tree_cells.specs.Arrivals.{arrival, reachable, held, sorted, spend, spent_at, cut_at, least_from, ascents}
pub use Rattle.tree_cells.specs.Cells.{pair_up, seen_cells, zipped, AreFilledAlike, Held}
pub use Rattle.tree_cells.specs.Moves.{HasInTurn, HasLeft}
pub use Rattle.tree_cells.specs.Place.{IsPlace, Parts, HasKey, against, searched, IsWindow, slot_of}
pub use Rattle.tree_cells.specs.Tabled.{IsTabled, AreSlots, IsInOrder, IsSetAt}
pub use Rattle.tree_cells.specs.declared.search.Place.TheVariants.{Before, At}
pub use Rattle.tree_model.proofs.Ascending.{IsAscending-without, IsAscending-put, IsAscending-cut}
pub use Rattle.tree_model.proofs.Common.{IsTotalOrder, cases_lt, IsAscending, cases_eq, AllByRecursion, pair_at, get_or_past, without, tied_back, tied_itself, false≢true, cases_order, put}
pub use Rattle.tree_model.proofs.Common.{above, below, map-append, Bound, within, cut, nat_tests, filter-append, ⊤}
pub use Rattle.tree_model.proofs.Lists.{find_none, all_map, all_at, find_kept, find_dropped, all-append, filter_all, filter_none, find_after}
pub use Rattle.tree_model.proofs.LookUps.{equal_from_test, pair_at-without, pair_at-cut, same_look_ups, pair_at-put}
pub use Rattle.tree_model.proofs.Order.{greater_from_less, less_from_greater, greater_trans}
pub use Rattle.tree_cells.proofs.OrderCommon.{named, picked, names, IsLen, length-names, named_at, slice_get-names, edited, named_beyond, named_tail, named_later, length-picked, get_or-picked}
pub use Rattle.tree_cells.proofs.OrderCommon.{ordinal_in, ordinal_here, ordinal_before, rises_from, rises_in, rises_down, rises_up, inserted, renamed, taken_out}
