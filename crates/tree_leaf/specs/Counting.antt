-- How often a number stands in a list, and whether it is in use.
use Rattle.std.specs.Prelude.{ℕ, ◌==◌, List, count_by, is_some, if◌then◌else◌}
use Rattle.slab.specs.Slab.{Slab, get}

-- how often a number stands in a list
unfoldable pub times : ℕ → List ℕ → ℕ
times n ids = count_by (λ id. id == n) ids

-- 1 if the number is in use, else 0
unfoldable pub uses : {T : Type 0} → Slab T → ℕ → ℕ
uses arena n = if is_some (get arena n) then 1 else 0
