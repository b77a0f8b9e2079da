-- What an index is once the borrow of `peek_or_insert` has ended.
use Rattle.std.specs.Prelude.{ℕ, Bool, MatchResult, Option, Result, ⊤}
use Rattle.std.specs.Borrow.{Bor, MutBor, Fml, RattleType, follows_so}
use Rattle.std.specs.declared.cmp.Ordering.{Ordering}
use mathlib.Core.Option.{none}
use Rattle.tree_index.specs.Index.{Index}
use Rattle.tree_index.specs.Present.{IsRefusedAt, StandsAt}
use Rattle.tree_index.specs.contracts.index.TreeIndexOf.{the_row}

-- the types, where K has these clones and comparisons
module _ (K V LEN : RattleType) (is_clone : K.Denot → K.Denot → Type 0) (is_infallible : K.Denot → Type 0) (cmp : K.Denot → K.Denot → Ordering) (eq : K.Denot → K.Denot → Bool) (partial_cmp : K.Denot → K.Denot → Option Ordering) where
  abbrev pub the_index : RattleType
  the_index = the_row K V LEN (record { is_clone = is_clone; is_infallible = is_infallible }) (record { cmp = cmp }) (record { eq = eq }) (record { partial_cmp = partial_cmp })

  -- The value stands at the key. Or memory was refused.
  abbrev pub lends_value : {E : Type 0} → MutBor (Index K.Denot V.Denot) → K.Denot → V.Denot → ℕ → Result (Bor V.Denot) E → Fml
  lends_value index key value len result = follows_so the_index the_index index.ghost_name none (λ _ _. ⊤)
      (λ new. MatchResult result (λ found. StandsAt cmp len index.now key value found.now new) (λ _. IsRefusedAt cmp is_infallible index.now key new))
