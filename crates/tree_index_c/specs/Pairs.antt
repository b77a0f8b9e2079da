-- Pairs, bounds and places, as C sees them.
use Rattle.std.specs.Prelude.{◌≡◌, ℕ, List, ◌++◌, filter, map, take, drop, length, min, if◌then◌else◌, ◌==◌}
use Rattle.std.specs.declared.cmp.Ordering.{Ordering}
use Rattle.std.specs.declared.ops.Bound.{Bound}
use Rattle.std.specs.declared.ops.Bound.TheVariants.{Included, Excluded, Unbounded}
use Rattle.tree_model.specs.Pairs.{within}
use Rattle.tree_index_c.specs.declared.pair.Pair.{Pair}

abbrev pub pair_of : Pair → ℕ × ℕ
pair_of pair = (pair.key, pair.value)

-- the two parts of a pair
abbrev pub key_of : ℕ × ℕ → ℕ
key_of pair = pair.0

abbrev pub value_of : ℕ × ℕ → ℕ
value_of pair = pair.1

abbrev pub as_pair : ℕ × ℕ → Pair
as_pair pair = record { key = pair.0; value = pair.1 }

-- 1 includes the key, 2 excludes it, and any other kind is no bound
abbrev pub bound_at : {K : Type 0} → ℕ → K → Bound K
bound_at kind key = if kind == 1 then Included key else if kind == 2 then Excluded key else Unbounded

-- the pairs whose keys are within both bounds
abbrev pub pairs_between : {K : Type 0} → (K → K → Ordering) → Bound K → Bound K → List (K × ℕ) → List (K × ℕ)
pairs_between cmp low high pairs = filter (λ pair. within cmp low high pair.0) pairs

-- The first places have the first of all, as many as there are of both, as they are shown there. The others are as they were.
pub record Fills {P X : Type 0} (show : P → X) (all : List P) (before : List X) (answer : ℕ) (after : List X) : Type 0 where
  pub count : answer ≡ min (length before) (length all)
  pub filled : after ≡ map show (take answer all) ++ drop answer before

-- The same of two arrays, one for keys and one for values, as many as both have places for.
pub record FillsArrays (all : List (ℕ × ℕ)) (keys_before values_before : List ℕ) (answer : ℕ) (keys_after values_after : List ℕ) : Type 0 where
  pub count : answer ≡ min (min (length keys_before) (length values_before)) (length all)
  pub keys : keys_after ≡ map key_of (take answer all) ++ drop answer keys_before
  pub values : values_after ≡ map value_of (take answer all) ++ drop answer values_before
