-- Pairs that are loaded from lines.
use Rattle.std.specs.Prelude.{◌≡◌, ℕ, ◌^◌, ◌<◌, List, [], ◌∷◌, ◌++◌, decimal}
use Rattle.std.specs.Ordering.{nat_cmp}
use Rattle.tree_model.specs.Pairs.{put}

-- the line is a key, a space and a value
abbrev pub IsPairLine : List ℕ → ℕ × ℕ → Type 0
IsPairLine line pair = (pair.0 < 2 ^ 64) × (pair.1 < 2 ^ 64) × (line ≡ decimal pair.0 ++ 32 ∷ decimal pair.1)

-- Each line is a pair, which is stored. Nothing is answered.
abbrev pub Loads : List (ℕ × ℕ) → List (List ℕ) → List (List ℕ) → List (ℕ × ℕ) → Type 0
Loads old [] [] new = new ≡ old
Loads old (line ∷ lines) [] new = (pair : ℕ × ℕ) × IsPairLine line pair × Loads (put nat_cmp old pair.0 pair.1) lines [] new
Loads old lines (answer ∷ answers) new = ⊥
