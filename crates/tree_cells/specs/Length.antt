-- The two numbers of slots that an array may have.
use Rattle.std.specs.Prelude.{◌≡◌, ◌⊎◌, ℕ}

-- an array has 7 slots or 15
abbrev pub IsLen : ℕ → Type 0
IsLen len = (len ≡ 7) ⊎ (len ≡ 15)
