-- Keys that are strings of bytes, as C gets them: bytes in the first of some places, and an entry that has the length of the key.
use Rattle.std.specs.Prelude.{◌≡◌, ◌≢◌, ◌⊎◌, ℕ, ℤ, ◌+◌, ◌-◌, ◌<◌, ◌≤◌, Bool, true, false, List, [], ◌∷◌, ◌++◌, drop, length, map, min, take, Option, None, Some, Result, Ok, Err}
use Rattle.std.specs.List.{flat_map}
use Rattle.std.specs.declared.alloc.AllocError.{AllocError}
use Rattle.std.specs.declared.ops.Bound.{Bound}
use Rattle.tree_index.specs.Index.{Index}
use Rattle.tree_index_c.specs.declared.entry.Entry.{Entry}
use Rattle.tree_index_c.specs.declared.status.TheConstants.{NO, YES, NO_MEMORY, NO_ROOM}

-- Bytes are written to the places from one on, if they have room there.
abbrev pub WritesBytes : List ℕ → ℕ → List ℕ → Bool → List ℕ → Type 0
WritesBytes bytes from before true after = (length bytes ≤ length before - from) × (after ≡ take from before ++ bytes ++ drop (from + length bytes) before)
WritesBytes bytes from before false after = (length before - from < length bytes) × (after ≡ before)

-- the length of a key and its value
abbrev pub entry_of : List ℕ × ℕ → Entry
entry_of pair = record { length = length pair.0; value = pair.1 }

-- What is there is written. Where the places are too few for the key, they stay.
abbrev pub WritesEntry : Option (List ℕ × ℕ) → ℤ → List ℕ → List ℕ → Entry → Entry → Type 0
WritesEntry None answer before after entry_before entry_after = (answer ≡ NO) × (after ≡ before) × (entry_after ≡ entry_before)
WritesEntry (Some pair) answer before after entry_before entry_after =
    (entry_after ≡ entry_of pair)
    × (((answer ≡ YES) × (length pair.0 ≤ length before) × (after ≡ pair.0 ++ drop (length pair.0) before)) ⊎ ((answer ≡ NO_ROOM) × (length before < length pair.0) × (after ≡ before)))

-- the same, or an allocation failed
abbrev pub FindsEntry : Option (List ℕ × ℕ) → ℤ → List ℕ → List ℕ → Entry → Entry → Type 0
FindsEntry found answer before after entry_before entry_after =
    WritesEntry found answer before after entry_before entry_after ⊎ ((answer ≡ NO_MEMORY) × (after ≡ before) × (entry_after ≡ entry_before))

-- The pair is written, and the others are left. Or it is neither written nor removed.
abbrev pub PopsEntry : Option (List ℕ × ℕ) → List (List ℕ × ℕ) → Index (List ℕ) ℕ → ℤ → List ℕ → List ℕ → Entry → Entry → Index (List ℕ) ℕ → Type 0
PopsEntry found others old answer before after entry_before entry_after new =
    WritesEntry found answer before after entry_before entry_after × (answer ≡ YES → new.pairs ≡ others) × ((answer ≢ YES) → new ≡ old)

-- the bytes of all keys, one after another
abbrev pub joined : List (List ℕ × ℕ) → List ℕ
joined pairs = flat_map (λ pair. pair.0) pairs

-- The first of all are written, as many as there are entries and as their bytes have room, and at least one if there is an entry for it. What isn't written stays.
pub record FillsEntries (all : List (List ℕ × ℕ)) (keys_before keys_after : List ℕ) (entries_before entries_after : List Entry) (count : ℕ) : Type 0 where
  pub entries : entries_after ≡ map entry_of (take count all) ++ drop count entries_before
  pub keys : keys_after ≡ joined (take count all) ++ drop (length (joined (take count all))) keys_before
  pub stops : (count ≡ min (length entries_before) (length all)) ⊎ ((0 < count) × (length keys_before < length (joined (take (count + 1) all))))

-- What was written, or the length of the first key, which has no room.
abbrev pub FillsBytes : List (List ℕ × ℕ) → List ℕ → List ℕ → List Entry → List Entry → Result ℕ ℕ → Type 0
FillsBytes all keys_before keys_after entries_before entries_after (Ok count) = FillsEntries all keys_before keys_after entries_before entries_after count
FillsBytes all keys_before keys_after entries_before entries_after (Err needed) =
    (map (λ pair. length pair.0) (take 1 all) ≡ needed ∷ []) × (length keys_before < needed) × (keys_after ≡ keys_before) × (entries_after ≡ entries_before)

-- the same as an answer and a number, or an allocation failed
abbrev pub FillsOrRefuses : List (List ℕ × ℕ) → ℤ → List ℕ → List ℕ → List Entry → List Entry → ℕ → ℕ → Type 0
FillsOrRefuses all answer keys_before keys_after entries_before entries_after count_before count_after =
    ((answer ≡ YES) × FillsBytes all keys_before keys_after entries_before entries_after (Ok count_after))
    ⊎ ((answer ≡ NO_ROOM) × FillsBytes all keys_before keys_after entries_before entries_after (Err count_after))
    ⊎ ((answer ≡ NO_MEMORY) × (keys_after ≡ keys_before) × (entries_after ≡ entries_before) × (count_after ≡ count_before))

-- what holds of two bounds, or of a call that could not copy their keys
abbrev pub IfBounds : Result (Bound (List ℕ) × Bound (List ℕ)) AllocError → ℤ → (Bound (List ℕ) → Bound (List ℕ) → Type 0) → Type 0 → Type 0
IfBounds (Ok bounds) answer Holds Else = Holds bounds.0 bounds.1
IfBounds (Err _) answer Holds Else = (answer ≡ NO_MEMORY) × Else
