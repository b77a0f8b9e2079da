-- Where a key lies beside the pairs of an array.
use Rattle.std.specs.Prelude.{◌≡◌, ℕ, ◌≤◌, true, List, [], ◌∷◌, ◌++◌, length, take, drop}
use Rattle.std.specs.List.{AllByRecursion}
use Rattle.std.specs.Ordering.{is_ge, is_le}
use Rattle.std.specs.declared.cmp.Ordering.{Ordering}
use Rattle.std.specs.declared.cmp.Ordering.TheVariants.{Less}

-- of these pairs the first has no larger key, and the last no smaller one
pub record Spans {K V : Type 0} (cmp : K → K → Ordering) (pairs : List (K × V)) (key : K) : Type 0 where
  pub first : K × V
  pub rest : List (K × V)
  pub begins : pairs ≡ first ∷ rest
  pub low : is_le (cmp first.0 key) ≡ true
  pub front : List (K × V)
  pub last : K × V
  pub ends : pairs ≡ front ++ last ∷ []
  pub high : is_le (cmp key last.0) ≡ true

-- the keys before the place are less than the key, and the others aren't
pub record PartsAt {K V : Type 0} (cmp : K → K → Ordering) (key : K) (pairs : List (K × V)) (place : ℕ) : Type 0 where
  pub within : place ≤ length pairs
  pub smaller : AllByRecursion (λ c. cmp c.0 key ≡ Less) (take place pairs)
  pub others : AllByRecursion (λ c. is_ge (cmp c.0 key) ≡ true) (drop place pairs)
