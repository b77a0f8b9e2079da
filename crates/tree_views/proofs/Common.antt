-- The names that most proofs here and above cite, passed on from one place. Declares nothing.
pub use Rattle.std.proofs.Common.{Bool, Bor, Equal, Greater, Less, List, None, Option, Ordering, Some, [], ap, arith, false, flat_map, fold, is_some, length, length-append, map, not, refl, reverse}
pub use Rattle.std.proofs.Common.{sym, true, ◌&&◌, ◌++◌, ◌∙◌, ◌∷◌, ◌≡◌}
pub use Rattle.std.proofs.lemmas.Grind.{fold-append}
pub use Rattle.std.proofs.lemmas.List.{map_push}
pub use Rattle.std.specs.Cmp.Lexicographic.{pointwise, slice_partial_cmp}
pub use Rattle.std.specs.Hash.{fed_then}
pub use Rattle.std.specs.Iterator.{at_most}
pub use Rattle.std.specs.Map.Iter.{TakesFirst, TakesLast}
pub use Rattle.std.specs.Option.{option_map}
pub use Rattle.std.specs.Ordering.{is_ne, partial_ordering_then}
pub use Rattle.tree_array.proofs.Common.{filter_all}
pub use Rattle.tree_model.proofs.Common.{AllByRecursion, Cursor, HasBegun, IsTotalOrder, MakesProgress, Moves, Unbounded, fresh, lent_entry, rest, reverse-reverse, reverse_onto, ⊤}
pub use Rattle.tree_model.specs.Rest.{between}
pub use Rattle.tree_model.specs.declared.way.Way.TheVariants.{Back, On}
pub use Rattle.tree_cursors.proofs.Yields.{rest_fresh, takes_first}
pub use Rattle.tree_cursors.specs.Ranged.{IsOpen, moves_left}
pub use Rattle.tree_views.specs.Keys.{GoesThroughAll}
