-- The words of a line, and what a parser reads in them.
use Rattle.std.specs.Prelude.{◌≡◌, ◌≢◌, ℕ, ◌^◌, ◌<◌, List, [], ◌∷◌, Option, Some, None, ⊤, length, decimal, slice_index}
use Rattle.std.specs.List.{AllByRecursion}
use Rattle.std.specs.declared.ops.Bound.{Bound}
use Rattle.tree_lines.specs.declared.requests.Request.{Request}
use Rattle.tree_lines.specs.Spelling.{Fits, FitsBound, name_of, arguments_of, behind_spaces, bound_text}

-- a word contains no space
abbrev pub IsWord : List ℕ → Type 0
IsWord bytes = AllByRecursion (λ b. b ≢ 32) bytes

-- after a word the line ends or a space follows
abbrev pub IsBehindWord : List ℕ → Type 0
IsBehindWord [] = ⊤
IsBehindWord (b ∷ bytes) = b ≡ 32

-- The text spells what was read. If nothing was read, it spells nothing that fits.
abbrev pub ReadsAs : {X : Type 0} → (X → Type 0) → (X → List ℕ) → List ℕ → Option X → Type 0
ReadsAs fits spell text (Some x) = fits x × (text ≡ spell x)
ReadsAs {X} fits spell text None = (x : X) → fits x → text ≢ spell x

-- the arguments of a request with this name are read
abbrev pub ReadsArguments : List ℕ → List ℕ → Option Request → Type 0
ReadsArguments name text read = ReadsAs (λ request. Fits request × (name_of request ≡ name)) (λ request. behind_spaces (arguments_of request)) text read

-- one number and two numbers, each after a space
abbrev pub one_number : ℕ → List ℕ
one_number n = behind_spaces (decimal n ∷ [])

abbrev pub two_numbers : ℕ × ℕ → List ℕ
two_numbers pair = behind_spaces (decimal pair.0 ∷ decimal pair.1 ∷ [])

abbrev pub FitsWord : ℕ → Type 0
FitsWord n = n < 2 ^ 64

abbrev pub BothFit : ℕ × ℕ → Type 0
BothFit pair = FitsWord pair.0 × FitsWord pair.1

-- two bounds, each after a space
abbrev pub two_bounds : Bound ℕ × Bound ℕ → List ℕ
two_bounds bounds = behind_spaces (bound_text bounds.0 ∷ bound_text bounds.1 ∷ [])

abbrev pub BothBoundsFit : Bound ℕ × Bound ℕ → Type 0
BothBoundsFit bounds = FitsBound bounds.0 × FitsBound bounds.1

-- a word with neither a plus sign nor a leading zero
abbrev pub IsPlain : List ℕ → Type 0
IsPlain word = (slice_index word 0 ≢ 43) × (slice_index word 0 ≡ 48 → length word ≡ 1)
