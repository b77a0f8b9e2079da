-- The head of a file, as the text of its first frame.
use Rattle.std.specs.Prelude.{◌≡◌, ℕ, ◌+◌, ◌==◌, ◌&&◌, if◌then◌else◌, List, [], ◌∷◌, ◌++◌, length, take, slice_index, Option, Some, None}
use Rattle.std.specs.Int.{w32, w64, to_le_bytes, from_le_bytes}
use Rattle.std.specs.Str.{bytes_eq}
use Rattle.store_log.specs.declared.head.Head.{Head}

-- `TreeStore`, 0, and version 1 as two bytes
abbrev pub magic : List ℕ
magic = 84 ∷ 114 ∷ 101 ∷ 101 ∷ 83 ∷ 116 ∷ 111 ∷ 114 ∷ 101 ∷ 0 ∷ 1 ∷ 0 ∷ []

abbrev pub head_text : Head → List ℕ
head_text head = magic ++ to_le_bytes w32 head.kind_of_keys ++ to_le_bytes w32 head.kind_of_values ++ to_le_bytes w64 head.generation ++ to_le_bytes w64 head.key

abbrev pub four_at : List ℕ → ℕ → List ℕ
four_at text at = slice_index text at ∷ slice_index text (at + 1) ∷ slice_index text (at + 2) ∷ slice_index text (at + 3) ∷ []

abbrev pub eight_at : List ℕ → ℕ → List ℕ
eight_at text at = slice_index text at ∷ slice_index text (at + 1) ∷ slice_index text (at + 2) ∷ slice_index text (at + 3) ∷ slice_index text (at + 4) ∷ slice_index text (at + 5) ∷ slice_index text (at + 6) ∷ slice_index text (at + 7) ∷ []

-- the keys and the values are of these kinds
abbrev pub HasKinds : Head → ℕ × ℕ → Type 0
HasKinds head kinds = (head.kind_of_keys ≡ kinds.0) × (head.kind_of_values ≡ kinds.1)

abbrev pub numbers_of : List ℕ → Head
numbers_of text = record {
  kind_of_keys = from_le_bytes w32 (four_at text 12);
  kind_of_values = from_le_bytes w32 (four_at text 16);
  generation = from_le_bytes w64 (eight_at text 20);
  key = from_le_bytes w64 (eight_at text 28);
}

-- the head that a text spells
abbrev pub head_at : List ℕ → Option Head
head_at text = if (length text == 36) && bytes_eq magic (take 12 text) then Some (numbers_of text) else None
