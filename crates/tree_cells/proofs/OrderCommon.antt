-- The names that most proofs here and above cite, passed on from one place. Declares nothing.
pub use Rattle.std.proofs.Common.{arith, ◌∙◌, ap, ◌≡◌, ◌+◌, ◌-◌, ◌<◌, ◌∷◌, drop, sym, ℕ, inl, ◌*◌, ◌/◌, ◌^◌, [], inr, refl, ◌≤◌, get_or, length-drop, rules, Some, suc, length-set}
pub use Rattle.std.proofs.Common.{get_or-set_same, get_or-set_other, length, slice_index_or, ◌≢◌, ◌++◌, replicate, append_assoc, length-append, ◌%◌, List, eqb-true}
pub use Rattle.std.proofs.lemmas.Bool.{cases_lt, cases_eq}
pub use Rattle.std.proofs.lemmas.List.{at_drop_all, at_drop_more, length-replicate}
pub use Rattle.std.proofs.lemmas.List.Elements.{All-drop, All-nil, All-append, All-replicate}
pub use Rattle.std.proofs.lemmas.Nat.{shl_whole, shr_below, shr_split}
pub use Rattle.tree_cells.proofs.InTurn.{all_rise, rises_down, rises_up, turn_order, ordinal_before, ordinal_here, turn}
pub use Rattle.tree_cells.proofs.Words.{get_or-picked, length-picked, picked-next}
pub use Rattle.tree_cells.proofs.Rows.{live, edited_order, one_small, pushed, named_tail, ended, last_is, named_beyond}
pub use Rattle.tree_cells.proofs.Words.{length-names, names_small, joins, named_at, rest_behind, slice_get-names, named_later, packed_drop, repeated, word_low, get_or-names, same_names, len_small}
pub use Rattle.tree_cells.specs.Length.{IsLen}
pub use Rattle.tree_cells.specs.Order.{named, ordinal_in, IsSmall, names, picked, rises_from, rises_in, packed, edited, inserted, renamed, taken_out, IsOrder, is_retired}
