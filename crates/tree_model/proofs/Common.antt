-- The names that most proofs here and above cite, passed on from one place. Declares nothing.
pub use Rattle.std.proofs.lemmas.Bool.{cases_eq, cases_lt, cases_order}
pub use Rattle.std.proofs.lemmas.Bool.Decides.{nat_tests}
pub use Rattle.std.proofs.lemmas.Cmp.{tied_itself, tied_back, alike_right, nat_cmp_total}
pub use Rattle.std.proofs.lemmas.Grind.{reverse_onto}
pub use Rattle.std.proofs.lemmas.List.{map-append, reverse-reverse, reverse-append, get_or_past, nil_from_length, drop_all}
pub use Rattle.std.proofs.lemmas.List.Concat.{flat_map-append}
pub use Rattle.std.proofs.lemmas.List.Elements.{filter-append}
pub use Rattle.std.proofs.lemmas.Result.{err_from_is_err_and}
pub use Rattle.std.specs.Cmp.{IsTotalOrder}
pub use Rattle.std.specs.Cmp.Lexicographic.{slice_cmp}
pub use Rattle.std.specs.Io.KnownBytes.{Appends}
pub use Rattle.std.specs.Iterator.{MakesProgress}
pub use Rattle.std.specs.List.{AllByRecursion}
pub use Rattle.std.specs.Prelude.{⊤}
pub use Rattle.std.specs.Range.Bound.{bound_map}
pub use Rattle.std.specs.declared.ops.Bound.{Bound}
pub use Rattle.std.specs.declared.ops.Bound.TheVariants.{Unbounded, Included, Excluded}
pub use Rattle.tree_model.specs.Cursor.{Cursor, meets, unopened, at_place, fresh, next_end, greatest_place, shown, End, element_at}
pub use Rattle.tree_model.specs.Pairs.{IsAscending, pair_at, AllLarger, put, without, IsAbsent, within, below, cut, above, IsPresent}
pub use Rattle.tree_model.specs.Rest.{lent_entry, rest, HasBegun, lent, Moves}
pub use Rattle.tree_model.specs.Ways.{along, opposite}
pub use Rattle.tree_model.specs.declared.commands.Command.{Command}
pub use Rattle.tree_model.specs.declared.commands.Command.TheVariants.{Insert, Upsert, Remove, RemoveRange, Clear, Peek}
pub use Rattle.tree_model.specs.declared.commands.InsertError.{InsertError}
pub use Rattle.tree_model.specs.declared.commands.Reply.{Reply}
pub use Rattle.tree_model.specs.declared.commands.Reply.TheVariants.{Stored, Duplicate, Removed, Done, Found}
pub use Rattle.tree_model.specs.declared.way.Way.{Way}
pub use Rattle.tree_model.specs.declared.way.Way.TheVariants.{On, Back}
pub use mathlib.Core.Bool.{false≢true}
