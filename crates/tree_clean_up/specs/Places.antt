-- Places among the children of a node, and where a cut begins and ends there. Keyed children are seen with their separators.
use Rattle.std.specs.Prelude.{◌≡◌, ◌≢◌, ℕ, ◌≤◌, true, false, List, Option, None, Some, take, drop, length}
use Rattle.std.specs.List.{AllByRecursion}
use Rattle.std.specs.declared.cmp.Ordering.{Ordering}
use Rattle.std.specs.declared.cmp.Ordering.TheVariants.{Less}
use Rattle.std.specs.declared.ops.Bound.{Bound}
use Rattle.std.specs.declared.ops.Bound.TheVariants.{Unbounded}
use Rattle.tree_model.specs.Pairs.{meets_lower, meets_upper}

-- the keyed child, if there is one, and else the unbounded one
abbrev pub keyed_or : {K X : Type 0} → Option (K × X) → Option X → Option X
keyed_or None last = last
keyed_or (Some c) last = Some c.1

module _ {K X : Type 0} (cmp : K → K → Ordering) where
  -- the separators before the place miss the lower bound, and whatever is above one of the others meets it
  pub record BeginsAt (low : Bound K) (pairs : List (K × X)) (place : ℕ) : Type 0 where
    pub within : place ≤ length pairs
    pub missed : AllByRecursion (λ c. meets_lower cmp low c.0 ≡ false) (take place pairs)
    pub opened : AllByRecursion (λ c. (k : K) → cmp c.0 k ≡ Less → meets_lower cmp low k ≡ true) (drop place pairs)

  -- the separators before the place meet the upper bound, and whatever is above one of the others misses it
  pub record EndsAt (high : Bound K) (pairs : List (K × X)) (place : ℕ) : Type 0 where
    pub within : place ≤ length pairs
    pub met : AllByRecursion (λ c. meets_upper cmp high c.0 ≡ true) (take place pairs)
    pub closed : AllByRecursion (λ c. (k : K) → cmp c.0 k ≡ Less → meets_upper cmp high k ≡ false) (drop place pairs)

-- the bound stays at its own place, and is open at the others
pub record Narrows {K : Type 0} (bound result : Bound K) (place own : ℕ) : Type 0 where
  pub kept : place ≡ own → result ≡ bound
  pub opened : place ≢ own → result ≡ Unbounded
