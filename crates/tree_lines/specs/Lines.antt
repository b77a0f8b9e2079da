-- The answer to a line, and scripts of lines.
use Rattle.std.specs.Prelude.{◌≡◌, ◌≢◌, ◌⊎◌, ℕ, ◌+◌, ◌*◌, ◌-◌, ◌^◌, ◌≤◌, min, Bool, true, false, nat_eq, List, [], ◌∷◌, ◌++◌, filter, length, map, reverse, slice_get, Option, Some, None, MatchOption, is_some, codes, decimal}
use Rattle.std.specs.Option.{option_map_or}
use Rattle.std.specs.Ordering.{nat_cmp}
use Rattle.std.specs.declared.ops.Bound.{Bound}
use Rattle.tree_model.specs.Pairs.{above, below, cut, pair_at, put, within, without}
use Rattle.tree_model.specs.Edits.{RemovesIf}
use Rattle.tree_lines.specs.declared.requests.Request.{Request}
use Rattle.tree_lines.specs.declared.requests.Request.TheVariants.{Insert, Upsert, Remove, RemoveIf, RemoveRange, Clear, Peek, Contains, Len, Depth, Spare, Iter, Back, Range, Locate}
use Rattle.tree_lines.specs.Spelling.{Fits, behind_spaces, spelling}

-- the spelling of a truth value
abbrev pub truth : Bool → List ℕ
truth true = codes "true"
truth false = codes "false"

-- the condition that compares a stored value with this one
abbrev pub SaysEqual : ℕ → ℕ → Bool → Type 0
SaysEqual value stored said = said ≡ nat_eq stored value

-- the spelling of a pair, in which 61 is the equals sign, and of pairs parted by one space
abbrev pub pair_text : ℕ × ℕ → List ℕ
pair_text pair = decimal pair.0 ++ 61 ∷ decimal pair.1

abbrev pub pairs_text : List (ℕ × ℕ) → List ℕ
pairs_text [] = []
pairs_text (pair ∷ pairs) = pair_text pair ++ behind_spaces (map pair_text pairs)

-- the pairs whose keys are within both bounds
abbrev pub inside : Bound ℕ → Bound ℕ → List (ℕ × ℕ) → List (ℕ × ℕ)
inside low high pairs = filter (λ pair. within nat_cmp low high pair.0) pairs

-- the first pair and the last, if there is one
abbrev pub first_pair : List (ℕ × ℕ) → Option (ℕ × ℕ)
first_pair pairs = slice_get pairs 0

abbrev pub last_pair : List (ℕ × ℕ) → Option (ℕ × ℕ)
last_pair pairs = slice_get pairs (length pairs - 1)

-- the nearest pairs of an absent key: the last of the smaller ones, and the first of the larger ones
abbrev pub beside_text : Option (ℕ × ℕ) → Option (ℕ × ℕ) → List ℕ
beside_text None None = codes "empty"
beside_text None (Some larger) = codes "larger" ++ behind_spaces (pair_text larger ∷ [])
beside_text (Some smaller) None = codes "smaller" ++ behind_spaces (pair_text smaller ∷ [])
beside_text (Some smaller) (Some larger) = codes "between" ++ behind_spaces (pair_text smaller ∷ pair_text larger ∷ [])

-- where a key is among pairs
abbrev pub near_text : List (ℕ × ℕ) → ℕ → List ℕ
near_text pairs key =
    option_map_or (λ pair. codes "exact" ++ behind_spaces (pair_text pair ∷ []))
    (pair_at nat_cmp pairs key)
    (beside_text (last_pair (below nat_cmp pairs key)) (first_pair (above nat_cmp pairs key)))

-- over an index of `LEN` pairs a leaf
module _ (LEN : ℕ) where
  -- The answer to a request over the pairs `old`, which become `new`.
  abbrev pub Answers : List (ℕ × ℕ) → Request → List ℕ → List (ℕ × ℕ) → Type 0
  Answers old (Insert key value) answer new =
      MatchOption (pair_at nat_cmp old key)
      (((answer ≡ codes "ok") × (new ≡ put nat_cmp old key value)) ⊎ ((answer ≡ codes "refused") × (new ≡ old)))
      (λ _. (answer ≡ codes "duplicate") × (new ≡ old))
  Answers old (Upsert key value) answer new = ((answer ≡ codes "ok") × (new ≡ put nat_cmp old key value)) ⊎ ((answer ≡ codes "refused") × (new ≡ old))
  Answers old (Remove key) answer new = (answer ≡ truth (is_some (pair_at nat_cmp old key))) × (new ≡ without nat_cmp old key)
  Answers old (RemoveIf key value) answer new = (removed : Bool) × RemovesIf nat_cmp (SaysEqual value) old key removed new × (answer ≡ truth removed)
  Answers old (RemoveRange low high) answer new = (answer ≡ codes "ok") × (new ≡ cut nat_cmp old low high)
  Answers old Clear answer new = (answer ≡ codes "ok") × (new ≡ [])
  Answers old (Contains key) answer new = (answer ≡ truth (is_some (pair_at nat_cmp old key))) × (new ≡ old)
  Answers old Len answer new = (answer ≡ decimal (min (length old) (2 ^ 64 - 1))) × (new ≡ old)
  Answers old Depth answer new = (depth : ℕ) × (length old ≤ LEN * (LEN + 1) ^ depth) × (answer ≡ decimal depth) × (new ≡ old)
  Answers old Spare answer new = (spare : ℕ) × (answer ≡ decimal spare) × (new ≡ old)
  Answers old Iter answer new = (answer ≡ pairs_text old) × (new ≡ old)
  Answers old Back answer new = (answer ≡ pairs_text (reverse old)) × (new ≡ old)
  Answers old (Range low high) answer new = (answer ≡ pairs_text (inside low high old)) × (new ≡ old)
  Answers old (Locate key) answer new = (answer ≡ near_text old key) × (new ≡ old)
  Answers old (Peek key) answer new = (answer ≡ option_map_or (λ pair. decimal pair.1) (pair_at nat_cmp old key) (codes "none")) × (new ≡ old)

  -- The answer to a line. A line that is not a request is answered with a question mark and changes nothing.
  abbrev pub Says : List (ℕ × ℕ) → List ℕ → List ℕ → List (ℕ × ℕ) → Type 0
  Says old line answer new =
      ((request : Request) × Fits request × (line ≡ spelling request) × Answers old request answer new)
      ⊎ (((request : Request) → Fits request → line ≢ spelling request) × (answer ≡ codes "?") × (new ≡ old))

  -- The lines are answered one after another.
  abbrev pub Script : List (ℕ × ℕ) → List (List ℕ) → List (List ℕ) → List (ℕ × ℕ) → Type 0
  Script old [] [] new = new ≡ old
  Script old (line ∷ lines) (answer ∷ answers) new = (mid : List (ℕ × ℕ)) × Says old line answer mid × Script mid lines answers new
  Script old [] (answer ∷ answers) new = ⊥
  Script old (line ∷ lines) [] new = ⊥
