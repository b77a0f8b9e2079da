-- The spelling of requests.
use Rattle.std.proofs.Common.{◌≡◌, ℕ, ◌*◌, ◌^◌, ◌<◌, ◌≤◌, List, [], ◌∷◌, ◌++◌, length, Option, Some, None, refl, sym, ap, ◌∙◌, length-append, rules, arith, nat_le, Bool, true, false, decimal}
use Rattle.std.specs.List.{AllByRecursion}
use Rattle.std.specs.declared.ops.Bound.{Bound}
use Rattle.std.specs.declared.ops.Bound.TheVariants.{Included, Excluded, Unbounded}
use Rattle.std.proofs.lemmas.Bool.Decides.{nat_tests}
use Rattle.tree_lines.specs.declared.requests.Request.{Request}
use Rattle.tree_lines.specs.declared.requests.Request.TheVariants.{Insert, Upsert, Remove, RemoveIf, RemoveRange, Peek, Contains, Range, Locate}
use Rattle.tree_lines.specs.Spelling.{Fits, FitsBound, name_of, arguments_of, behind_spaces, bound_text, spelling, clip}
use Rattle.tree_lines.specs.Words.{BothBoundsFit, BothFit, IsWord, IsBehindWord, ReadsAs, ReadsArguments, one_number, two_bounds, two_numbers}
use Rattle.tree_lines.proofs.FirstWords.{one_first_word}
use Rattle.tree_lines.proofs.Decimals.{length-decimal}

-- the name of a request is a word
IsWord-name : (request : Request) → IsWord (name_of request)
IsWord-name (Insert key value) = search rules
IsWord-name request = search rules

-- a space follows it, or nothing
IsBehindWord-spaces : (words : List (List ℕ)) → IsBehindWord (behind_spaces words)
IsBehindWord-spaces [] = tt
IsBehindWord-spaces (word ∷ words) = refl

module _ (line word behind : List ℕ) (is_word : IsWord word) (is_behind : IsBehindWord behind) (whole : line ≡ word ++ behind) where
  -- a line that spells a request has its name as the first word, and its arguments after that
  pub parts_of : (request : Request) → line ≡ spelling request → (word ≡ name_of request) × (behind ≡ behind_spaces (arguments_of request))
  parts_of request e = one_first_word word (name_of request) behind (behind_spaces (arguments_of request)) is_word (IsWord-name request) is_behind (IsBehindWord-spaces (arguments_of request)) (sym whole ∙ e)

  -- so a line is read by its first word and what follows it
  pub reads_by_name : (name : List ℕ) → word ≡ name → (read : Option Request) → ReadsArguments name behind read → ReadsAs Fits spelling line read
  reads_by_name name same (Some request) h = (h.0.0, whole ∙ ap (λ w. w ++ behind) (same ∙ sym h.0.1) ∙ ap (λ b. name_of request ++ b) h.1)
  reads_by_name name same None h = λ request fits e. let parts = parts_of request e in h request (fits, sym parts.0 ∙ same) parts.1

-- words of up to 21 bytes, each after a space
length-spaces : (words : List (List ℕ)) → AllByRecursion (λ word. length word ≤ 21) words → length (behind_spaces words) ≤ 22 * length words
length-spaces [] short = omega arith
length-spaces (word ∷ words) short = omega (arith, length-append word (behind_spaces words), short.0, length-spaces words short.1)

-- the arguments of a request are such words
length-number : (n : ℕ) → n < 2 ^ 64 → length (decimal n) ≤ 21
length-number n small = omega (arith, length-decimal n small)

length-bound : (bound : Bound ℕ) → FitsBound bound → length (bound_text bound) ≤ 21
length-bound (Included n) small = omega (arith, length-decimal n small)
length-bound (Excluded n) small = omega (arith, length-decimal n small)
length-bound Unbounded small = omega arith

one_short : (n : ℕ) → n < 2 ^ 64 → length (one_number n) ≤ 22
one_short n small = omega (arith, length-spaces (decimal n ∷ []) (length-number n small, tt))

two_short : (pair : ℕ × ℕ) → BothFit pair → length (two_numbers pair) ≤ 44
two_short pair fits = omega (arith, length-spaces (decimal pair.0 ∷ decimal pair.1 ∷ []) (length-number pair.0 fits.0, (length-number pair.1 fits.1, tt)))

bounds_short : (bounds : Bound ℕ × Bound ℕ) → BothBoundsFit bounds → length (two_bounds bounds) ≤ 44
bounds_short bounds fits = omega (arith, length-spaces (bound_text bounds.0 ∷ bound_text bounds.1 ∷ []) (length-bound bounds.0 fits.0, (length-bound bounds.1 fits.1, tt)))

-- a request is a short line
spelling_short : (request : Request) → Fits request → length (spelling request) ≤ 256
spelling_short (Insert key value) fits = omega (arith, two_short (key, value) fits)
spelling_short (Upsert key value) fits = omega (arith, two_short (key, value) fits)
spelling_short (Remove key) fits = omega (arith, one_short key fits)
spelling_short (RemoveIf key value) fits = omega (arith, two_short (key, value) fits)
spelling_short (RemoveRange low high) fits = omega (arith, bounds_short (low, high) fits)
spelling_short (Peek key) fits = omega (arith, one_short key fits)
spelling_short (Contains key) fits = omega (arith, one_short key fits)
spelling_short (Range low high) fits = omega (arith, bounds_short (low, high) fits)
spelling_short (Locate key) fits = omega (arith, one_short key fits)
spelling_short request fits = omega arith

-- a line of which nothing is kept is longer than 256 bytes
long_by : (b : Bool) (line : List ℕ) → nat_le (length line) 256 ≡ b → clip line ≡ None → 256 < length line
long_by true line test none = absurd (cc (rw test at none))
long_by false line test none = grind (arith, nat_tests)

-- so it is not a request
pub long_no_request : (line : List ℕ) → clip line ≡ None → (request : Request) → Fits request → line ≡ spelling request → ⊥
long_no_request line none request fits e =
    let long = long_by (nat_le (length line) 256) line refl none in
    omega (arith, long, spelling_short request fits, ap length e)
