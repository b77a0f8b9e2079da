-- The lines of a text, what is kept of a line, and the spelling of a request.
use Rattle.std.specs.Prelude.{◌≡◌, ◌≢◌, ℕ, ◌^◌, ◌<◌, nat_le, List, [], ◌∷◌, ◌++◌, length, Option, Some, None, if◌then◌else◌, ⊤, codes, decimal}
use Rattle.std.specs.List.{AllByRecursion, flat_map}
use Rattle.std.specs.declared.ops.Bound.{Bound}
use Rattle.std.specs.declared.ops.Bound.TheVariants.{Included, Excluded, Unbounded}
use Rattle.tree_lines.specs.declared.requests.Request.{Request}
use Rattle.tree_lines.specs.declared.requests.Request.TheVariants.{Insert, Upsert, Remove, RemoveIf, RemoveRange, Clear, Peek, Contains, Len, Depth, Spare, Iter, Back, Range, Locate}

-- a line contains no line feed
abbrev pub IsLine : List ℕ → Type 0
IsLine bytes = AllByRecursion (λ b. b ≢ 10) bytes

-- a line, and the line feed that ends it
abbrev pub with_feed : List ℕ → List ℕ
with_feed line = line ++ 10 ∷ []

-- lines as one text, each with its line feed
abbrev pub text_of : List (List ℕ) → List ℕ
text_of lines = flat_map with_feed lines

-- The text is these lines, each ended by a line feed, and then the rest, which has no line feed.
pub record HasLines (text : List ℕ) (ended : List (List ℕ)) (rest : List ℕ) : Type 0 where
  pub whole : text ≡ text_of ended ++ rest
  pub each : AllByRecursion IsLine ended
  pub partial : IsLine rest

-- the rest is a line too, unless it is empty
abbrev pub last_line : List ℕ → List (List ℕ)
last_line [] = []
last_line (b ∷ rest) = (b ∷ rest) ∷ []

-- what is kept of a line: nothing if it is too long
abbrev pub clip : List ℕ → Option (List ℕ)
clip line = if nat_le (length line) 256 then Some line else None

-- the first word of a request
abbrev pub name_of : Request → List ℕ
name_of (Insert key value) = codes "insert"
name_of (Upsert key value) = codes "upsert"
name_of (Remove key) = codes "remove"
name_of (RemoveIf key value) = codes "remove_if"
name_of (RemoveRange low high) = codes "remove_range"
name_of Clear = codes "clear"
name_of (Peek key) = codes "peek"
name_of (Contains key) = codes "contains"
name_of Len = codes "len"
name_of Depth = codes "depth"
name_of Spare = codes "spare"
name_of Iter = codes "iter"
name_of Back = codes "back"
name_of (Range low high) = codes "range"
name_of (Locate key) = codes "locate"

-- the spelling of a bound: `[n` includes n, `(n` excludes it, and `-` leaves the end open
abbrev pub bound_text : Bound ℕ → List ℕ
bound_text (Included n) = codes "[" ++ decimal n
bound_text (Excluded n) = codes "(" ++ decimal n
bound_text Unbounded = codes "-"

-- the other words of a request; a number is written in decimal digits without a leading zero
abbrev pub arguments_of : Request → List (List ℕ)
arguments_of (Insert key value) = decimal key ∷ decimal value ∷ []
arguments_of (Upsert key value) = decimal key ∷ decimal value ∷ []
arguments_of (Remove key) = decimal key ∷ []
arguments_of (RemoveIf key value) = decimal key ∷ decimal value ∷ []
arguments_of (RemoveRange low high) = bound_text low ∷ bound_text high ∷ []
arguments_of Clear = []
arguments_of (Peek key) = decimal key ∷ []
arguments_of (Contains key) = decimal key ∷ []
arguments_of Len = []
arguments_of Depth = []
arguments_of Spare = []
arguments_of Iter = []
arguments_of Back = []
arguments_of (Range low high) = bound_text low ∷ bound_text high ∷ []
arguments_of (Locate key) = decimal key ∷ []

-- words, each after one space
abbrev pub behind_spaces : List (List ℕ) → List ℕ
behind_spaces words = flat_map (λ word. 32 ∷ word) words

-- the spelling of a request
abbrev pub spelling : Request → List ℕ
spelling request = name_of request ++ behind_spaces (arguments_of request)

-- the number of a bound fits in 64 bits
abbrev pub FitsBound : Bound ℕ → Type 0
FitsBound (Included n) = n < 2 ^ 64
FitsBound (Excluded n) = n < 2 ^ 64
FitsBound Unbounded = ⊤

-- the numbers of a request fit in 64 bits
abbrev pub Fits : Request → Type 0
Fits (Insert key value) = (key < 2 ^ 64) × (value < 2 ^ 64)
Fits (Upsert key value) = (key < 2 ^ 64) × (value < 2 ^ 64)
Fits (Remove key) = key < 2 ^ 64
Fits (RemoveIf key value) = (key < 2 ^ 64) × (value < 2 ^ 64)
Fits (RemoveRange low high) = FitsBound low × FitsBound high
Fits Clear = ⊤
Fits (Peek key) = key < 2 ^ 64
Fits (Contains key) = key < 2 ^ 64
Fits Len = ⊤
Fits Depth = ⊤
Fits Spare = ⊤
Fits Iter = ⊤
Fits Back = ⊤
Fits (Range low high) = FitsBound low × FitsBound high
Fits (Locate key) = key < 2 ^ 64
