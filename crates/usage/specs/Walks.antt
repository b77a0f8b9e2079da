-- The highest price, and the ends of some pairs.
use Rattle.std.specs.Prelude.{◌≡◌, ℕ, max, List, [], ◌∷◌, reverse, slice_get, Option, Some, None}
use Rattle.std.specs.Option.{option_map}

abbrev pub highest : List (ℕ × ℕ) → ℕ
highest [] = 0
highest (pair ∷ pairs) = max pair.1 (highest pairs)

-- the keys of the first pair and of the last
abbrev pub AreEnds : List (ℕ × ℕ) → Option (ℕ × ℕ) → Type 0
AreEnds pairs None = pairs ≡ []
AreEnds pairs (Some ends) =
    (option_map (λ pair. pair.0) (slice_get pairs 0) ≡ Some ends.0) × (option_map (λ pair. pair.0) (slice_get (reverse pairs) 0) ≡ Some ends.1)
