-- Texts of pairs, piece by piece.
use Rattle.std.specs.Prelude.{ℕ, Bool, true, false, List, [], ◌∷◌, ◌++◌, map, Option, Some, None}
use Rattle.tree_lines.specs.Spelling.{behind_spaces, with_feed}
use Rattle.tree_lines.specs.Lines.{pair_text, pairs_text}

-- a pair, behind a space unless it is the first
abbrev pub parted_text : Bool → ℕ × ℕ → List ℕ
parted_text true pair = pair_text pair
parted_text false pair = 32 ∷ pair_text pair

-- what is still to be written of a line of pairs
abbrev pub left_text : Bool → List (ℕ × ℕ) → List ℕ
left_text true pairs = with_feed (pairs_text pairs)
left_text false pairs = with_feed (behind_spaces (map pair_text pairs))

-- the pairs that there are
abbrev pub listed : Option (ℕ × ℕ) → List (ℕ × ℕ)
listed None = []
listed (Some pair) = pair ∷ []

-- a word, and each pair that there is behind a space
abbrev pub told_text : List ℕ → Option (ℕ × ℕ) → Option (ℕ × ℕ) → List ℕ
told_text word first second = word ++ behind_spaces (map pair_text (listed first ++ listed second))
