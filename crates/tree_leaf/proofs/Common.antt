-- The names that most proofs here and above cite, passed on from one place. Declares nothing.
pub use Rattle.slab.proofs.SlabLemmas.{ContainsKey-within, Updates-with_value}
pub use Rattle.slab.specs.Slab.{ContainsKey, HasRoomFor, Slab, Updates, get, slab_len, with_value}
pub use Rattle.std.proofs.Common.{Bool, Err, IsOk, IsSome, List, None, Ok, OnOk, Option, Result, Some, [], ap, append_assoc, arith, cond, count_by, false, inl, inr, is_some, length, nat_lt, refl}
pub use Rattle.std.proofs.Common.{slice_index_or, suc, sym, take, take_all, true, zero, ℕ, ◌++◌, ◌+◌, ◌<◌, ◌==◌, ◌∙◌, ◌∷◌, ◌≡◌, ◌≢◌, ◌≤◌, ◌⊎◌}
pub use Rattle.std.proofs.lemmas.List.Sums.{sum_by-append, sum_by-cons, sum_by-set}
pub use Rattle.tree_leaf.specs.Arena.{Gains, Keeps, KeepsBoth, Loses, Refuses, Reserves}
pub use Rattle.tree_leaf.specs.Chain.{AreLinked, IsBetween, IsChain, SameArray, first_or, last_or}
pub use Rattle.tree_leaf.specs.Counting.{times, uses}
pub use Rattle.tree_leaf.specs.Links.{ChangesAt, GainsBefore, SameRoom, Splices, Unlinks}
pub use Rattle.tree_leaf.specs.declared.arena.SlotsOf.{SlotsOf}
pub use Rattle.tree_leaf.specs.declared.leaf.LeafOf.{LeafOf}
pub use Rattle.tree_model.proofs.Common.{cases_eq, err_from_is_err_and, get_or_past, nat_tests}
