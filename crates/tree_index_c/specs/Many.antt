-- Look-ups of many keys, whose answers are written to two lists of places.
use Rattle.std.specs.Prelude.{◌≡◌, ◌⊎◌, ℕ, ℤ, ◌<◌, ◌≤◌, List, ◌++◌, drop, length, map, Option, None, Some, unwrap_or}
use Rattle.tree_index_c.specs.declared.status.TheConstants.{YES, NO_ROOM}

-- the value that a look-up found, or 0
abbrev pub value_or_zero : Option ℕ → ℕ
value_or_zero answer = unwrap_or answer 0

-- whether it found one, as a number
abbrev pub flag_of : Option ℕ → ℕ
flag_of None = 0
flag_of (Some value) = 1

-- The answers are written to the first places of both lists, each to its own, and the other places stay. Or one of the lists has too few places, and both stay.
abbrev pub PeeksMany : List (Option ℕ) → ℤ → List ℕ → List ℕ → List ℕ → List ℕ → Type 0
PeeksMany answers answer values_before values_after found_before found_after =
    ((answer ≡ YES) × (length answers ≤ length values_before) × (length answers ≤ length found_before)
    × (values_after ≡ map value_or_zero answers ++ drop (length answers) values_before)
    × (found_after ≡ map flag_of answers ++ drop (length answers) found_before))
    ⊎ ((answer ≡ NO_ROOM) × ((length values_before < length answers) ⊎ (length found_before < length answers)) × (values_after ≡ values_before) × (found_after ≡ found_before))
