-- Texts that are printed, and those of pairs.
use Rattle.std.specs.Prelude.{◌≡◌, ℕ, Bool, true, false, List, [], ◌∷◌, ◌++◌, Option, Result, Ok, Err, codes, decimal}
use Rattle.std.specs.List.{flat_map}
use Rattle.std.specs.Io.KnownBytes.{Appends}
use Rattle.serde_json.specs.Data.{Data, array, item, no_items, number, unsigned}
use Rattle.serde_json.specs.Written.{compact_text}

-- The text was printed. After `Err` a front of it was, perhaps all or nothing.
abbrev pub Prints : {T E : Type 0} → List ℕ → Option (List ℕ) → Option (List ℕ) → Result T E → Type 0
Prints text contents contents' (Ok _) = Appends contents contents' text
Prints text contents contents' (Err _) = (part rest : List ℕ) × Appends contents contents' part × (text ≡ part ++ rest)

-- A front of the text that waits was printed, and the rest waits. After `Err` some front was.
abbrev pub PassesOn : {T E : Type 0} → List ℕ → List ℕ → Option (List ℕ) → Option (List ℕ) → Result T E → Type 0
PassesOn text text' contents contents' (Ok _) = (part : List ℕ) × Appends contents contents' part × (text ≡ part ++ text')
PassesOn text text' contents contents' (Err _) = (part rest : List ℕ) × Appends contents contents' part × (text ≡ part ++ rest)

-- a pair on its line, and pairs one behind the other
abbrev pub pair_line : ℕ × ℕ → List ℕ
pair_line pair = decimal pair.0 ++ 32 ∷ (decimal pair.1 ++ 10 ∷ [])

abbrev pub listing : List (ℕ × ℕ) → List ℕ
listing pairs = flat_map pair_line pairs

-- a pair as JSON, behind a comma unless it is the first, and pairs as one array
abbrev pub pair_data : ℕ × ℕ → Data
pair_data pair = array (item (number (unsigned pair.0)) (item (number (unsigned pair.1)) no_items))

abbrev pub json_piece : Bool → ℕ × ℕ → List ℕ
json_piece true pair = compact_text (pair_data pair)
json_piece false pair = 44 ∷ compact_text (pair_data pair)

abbrev pub json_rest : Bool → List (ℕ × ℕ) → List ℕ
json_rest is_first [] = 93 ∷ 10 ∷ []
json_rest is_first (pair ∷ pairs) = json_piece is_first pair ++ json_rest false pairs

abbrev pub json_listing : List (ℕ × ℕ) → List ℕ
json_listing pairs = 91 ∷ json_rest true pairs

-- a number on its line behind its name, and those of a store
abbrev pub figure : List ℕ → ℕ → List ℕ
figure name n = name ++ 32 ∷ (decimal n ++ 10 ∷ [])

abbrev pub figures : ℕ → ℕ → ℕ → ℕ → ℕ → List ℕ
figures pairs bytes waste depth generation =
    figure (codes "pairs") pairs ++ (figure (codes "bytes") bytes ++ (figure (codes "waste") waste ++ (figure (codes "depth") depth ++ figure (codes "generation") generation)))
