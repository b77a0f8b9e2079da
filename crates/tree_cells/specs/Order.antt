-- The order of an array: four bits of a word for each place, which name the slot of the pair that stands there.
use Rattle.std.specs.Prelude.{◌≡◌, ℕ, zero, suc, ◌+◌, ◌-◌, ◌*◌, ◌/◌, ◌%◌, ◌^◌, ◌==◌, ◌<◌, ◌≤◌, Bool, List, [], ◌∷◌, ◌++◌, map, take, drop, length, replicate, slice_index_or, if◌then◌else◌, ltb}
use Rattle.std.specs.List.{All, range_with_len}

-- what stands at the first places
abbrev pub picked : {X : Type 0} → (ℕ → X) → ℕ → List X
picked pick n = map pick (range_with_len 0 n)

-- the slot that a place names
abbrev pub named : ℕ → ℕ → ℕ
named word place = word / 2 ^ (4 * place) % 16

-- the slots that the first places name
abbrev pub names : ℕ → ℕ → List ℕ
names word zero = []
names word (suc n) = word % 16 ∷ names (word / 16) n

-- the word whose places name these slots
abbrev pub packed : List ℕ → ℕ
packed [] = 0
packed (slot ∷ slots) = slot + 16 * packed slots

-- a name takes four bits
abbrev pub IsSmall : ℕ → Type 0
IsSmall slot = slot < 16

abbrev pub AreSmall : List ℕ → Type 0
AreSmall slots = All IsSmall slots

module _ {X : Type 0} where
  -- a list with others in place of the elements from n up to m
  abbrev pub edited : ℕ → ℕ → List X → List X → List X
  edited n m others xs = take n xs ++ (others ++ drop m xs)

  abbrev pub inserted : ℕ → X → List X → List X
  inserted n x xs = edited n n (x ∷ []) xs

  abbrev pub taken_out : ℕ → List X → List X
  taken_out n xs = edited n (n + 1) [] xs

  abbrev pub renamed : ℕ → X → List X → List X
  renamed n x xs = edited n (n + 1) (x ∷ []) xs

-- the last of these slots
abbrev pub last_of : List ℕ → ℕ
last_of slots = slice_index_or slots (length slots - 1) 0

-- the slots of the entries, behind them the last one again, and at the end the mark that says "beyond all"
abbrev pub row : ℕ → List ℕ → List ℕ
row len slots = slots ++ (replicate (len - length slots) (last_of slots) ++ 15 ∷ [])

-- the word of an order with so many entries
pub record IsOrder (len word count : ℕ) : Type 0 where
  pub small : len ≤ 15
  pub few : count ≤ len
  pub filled : 0 < count → word ≡ packed (row len (names word count))

-- the order says that its array lost its last entry
abbrev pub is_retired : ℕ → Bool
is_retired word = word == 0

-- one more than the last of the first places that names a slot, or 0
abbrev pub ordinal_in : (ℕ → ℕ) → ℕ → ℕ → ℕ
ordinal_in name zero slot = 0
ordinal_in name (suc n) slot = if name n == slot then n + 1 else ordinal_in name n slot

-- how often a number that isn't 0 is larger than the last one before that isn't
abbrev pub rises_from : ℕ → List ℕ → ℕ
rises_from previous [] = 0
rises_from previous (n ∷ ns) = if n == 0 then rises_from previous ns else (if ltb previous n then 1 else 0) + rises_from n ns

-- how many of the first slots have a higher ordinal than the last one before that has one
abbrev pub rises_in : (ℕ → ℕ) → ℕ → ℕ
rises_in ordinal n = rises_from 15 (picked ordinal n)
