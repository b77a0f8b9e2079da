-- What stands at a key after it was made present.
use Rattle.std.specs.Prelude.{◌≡◌, ℕ, Some, Result, Ok, Err, MatchOption}
use Rattle.std.specs.declared.cmp.Ordering.{Ordering}
use Rattle.tree_model.specs.Pairs.{IsAbsent, pair_at, put}
use Rattle.tree_index.specs.Index.{Index, IsWritten, StaysPacked}

module _ {K V : Type 0} (cmp : K → K → Ordering) (LEN : ℕ) (old : Index K V) (key : K) (value : V) where
  -- The value that stands at the key: that of the pair that was there, and nothing changed, or the very value passed, whose pair is stored now.
  abbrev pub StandsAt : V → Index K V → Type 0
  StandsAt found new =
      MatchOption (pair_at cmp old.pairs key)
      ((found ≡ value) × (new.pairs ≡ put cmp old.pairs key value) × IsWritten LEN old new × StaysPacked cmp old new key)
      (λ pair. (found ≡ pair.1) × (new ≡ old))

-- Memory was refused for an absent key, and the pairs are as they were. Where the key's clone needs no memory, no write was spare.
pub record IsRefusedAt {K V : Type 0} (cmp : K → K → Ordering) (IsInfallible : K → Type 0) (old : Index K V) (key : K) (new : Index K V) : Type 0 where
  pub absent : IsAbsent cmp old.pairs key
  pub kept : new.pairs ≡ old.pairs
  pub spent : IsInfallible key → old.spare ≡ 0

-- A key that finds what stands at the key passed, or a refusal.
abbrev pub MakesPresent : {K V E : Type 0} → (K → K → Ordering) → (K → Type 0) → ℕ → Index K V → K → V → Result K E → Index K V → Type 0
MakesPresent {K} {V} cmp IsInfallible LEN old key value (Ok same) new = (pair : K × V) × (pair_at cmp new.pairs same ≡ Some pair) × StandsAt cmp LEN old key value pair.1 new
MakesPresent cmp IsInfallible LEN old key value (Err error) new = IsRefusedAt cmp IsInfallible old key new
