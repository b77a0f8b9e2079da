-- A request is known by its name: arguments that none of its kind has are those of no request with its name.
use Rattle.std.proofs.Common.{◌≡◌, ◌≢◌, ℕ, ◌==◌, Bool, true, false, List, [], Option, Some, None, MatchOption, length, refl, sym, ap, ◌∙◌, arith, ◌||◌, codes, bytes_eq}
use mathlib.Core.Bool.{false≢true}
use Rattle.std.proofs.lemmas.Bool.Decides.{nat_tests}
use Rattle.std.proofs.lemmas.List.{nil_from_length}
use Rattle.std.proofs.lemmas.Slice.Eq.{bytes_eq-Decides}
use Rattle.tree_lines.specs.declared.requests.Request.{Request}
use Rattle.tree_lines.specs.declared.requests.Request.TheVariants.{Insert, Upsert, Remove, RemoveIf, RemoveRange, Clear, Peek, Contains, Len, Depth, Spare, Iter, Back, Range, Locate}
use Rattle.tree_lines.specs.Spelling.{Fits, arguments_of, behind_spaces, name_of}
use Rattle.tree_lines.specs.Words.{BothBoundsFit, BothFit, FitsWord, ReadsArguments, ReadsAs, one_number, two_bounds, two_numbers}

-- texts that differ somewhere are not equal
apart : {X : Type 0} (a b : List ℕ) → bytes_eq a b ≡ false → a ≡ b → X
apart a b differ same = absurd (false≢true (sym differ ∙ (bytes_eq-Decides a b).1 same))

module _ (text : List ℕ) where
  pub unread_insert : ReadsAs BothFit two_numbers text None → (request : Request) → Fits request × (name_of request ≡ codes "insert") → text ≢ behind_spaces (arguments_of request)
  unread_insert none (Insert key value) fits = none (key, value) fits.0
  unread_insert none request fits = apart (name_of request) (codes "insert") refl fits.1

  pub unread_upsert : ReadsAs BothFit two_numbers text None → (request : Request) → Fits request × (name_of request ≡ codes "upsert") → text ≢ behind_spaces (arguments_of request)
  unread_upsert none (Upsert key value) fits = none (key, value) fits.0
  unread_upsert none request fits = apart (name_of request) (codes "upsert") refl fits.1

  pub unread_remove : ReadsAs FitsWord one_number text None → (request : Request) → Fits request × (name_of request ≡ codes "remove") → text ≢ behind_spaces (arguments_of request)
  unread_remove none (Remove key) fits = none key fits.0
  unread_remove none request fits = apart (name_of request) (codes "remove") refl fits.1

  pub unread_remove_if : ReadsAs BothFit two_numbers text None → (request : Request) → Fits request × (name_of request ≡ codes "remove_if") → text ≢ behind_spaces (arguments_of request)
  unread_remove_if none (RemoveIf key value) fits = none (key, value) fits.0
  unread_remove_if none request fits = apart (name_of request) (codes "remove_if") refl fits.1

  pub unread_remove_range : ReadsAs BothBoundsFit two_bounds text None → (request : Request) → Fits request × (name_of request ≡ codes "remove_range") → text ≢ behind_spaces (arguments_of request)
  unread_remove_range none (RemoveRange low high) fits = none (low, high) fits.0
  unread_remove_range none request fits = apart (name_of request) (codes "remove_range") refl fits.1

  pub unread_peek : ReadsAs FitsWord one_number text None → (request : Request) → Fits request × (name_of request ≡ codes "peek") → text ≢ behind_spaces (arguments_of request)
  unread_peek none (Peek key) fits = none key fits.0
  unread_peek none request fits = apart (name_of request) (codes "peek") refl fits.1

  pub unread_contains : ReadsAs FitsWord one_number text None → (request : Request) → Fits request × (name_of request ≡ codes "contains") → text ≢ behind_spaces (arguments_of request)
  unread_contains none (Contains key) fits = none key fits.0
  unread_contains none request fits = apart (name_of request) (codes "contains") refl fits.1

  pub unread_range : ReadsAs BothBoundsFit two_bounds text None → (request : Request) → Fits request × (name_of request ≡ codes "range") → text ≢ behind_spaces (arguments_of request)
  unread_range none (Range low high) fits = none (low, high) fits.0
  unread_range none request fits = apart (name_of request) (codes "range") refl fits.1

  pub unread_locate : ReadsAs FitsWord one_number text None → (request : Request) → Fits request × (name_of request ≡ codes "locate") → text ≢ behind_spaces (arguments_of request)
  unread_locate none (Locate key) fits = none key fits.0
  unread_locate none request fits = apart (name_of request) (codes "locate") refl fits.1

  -- what is made of the arguments that were read is a request with this name
  pub reads_made : {X : Type 0} (fits : X → Type 0) (spell : X → List ℕ) (make : X → Request) (name : List ℕ)
      → ((x : X) → fits x → (Fits (make x) × (name_of (make x) ≡ name)) × (spell x ≡ behind_spaces (arguments_of (make x))))
      → (ReadsAs fits spell text None → ReadsArguments name text None)
      → (read : Option X) (made : Option Request) → MatchOption read (made ≡ None) (λ x. made ≡ Some (make x)) → ReadsAs fits spell text read → ReadsArguments name text made
  reads_made fits spell make name known unread (Some x) made is reads = rw is ((known x reads.0).0, reads.1 ∙ (known x reads.0).1)
  reads_made fits spell make name known unread None made is reads = rw is (unread reads)

-- the names of the requests without arguments
abbrev is_alone : List ℕ → Bool
is_alone name = bytes_eq name (codes "clear") || bytes_eq name (codes "len") || bytes_eq name (codes "depth") || bytes_eq name (codes "spare") || bytes_eq name (codes "iter") || bytes_eq name (codes "back")

alone : (request : Request) → arguments_of request ≡ [] → Fits request × (is_alone (name_of request) ≡ true)
alone Clear none = (tt, refl)
alone Len none = (tt, refl)
alone Depth none = (tt, refl)
alone Spare none = (tt, refl)
alone Iter none = (tt, refl)
alone Back none = (tt, refl)
alone request none = absurd (cc)

none_by_name : (request : Request) → is_alone (name_of request) ≡ true → arguments_of request ≡ []
none_by_name Clear named = refl
none_by_name Len named = refl
none_by_name Depth named = refl
none_by_name Spare named = refl
none_by_name Iter named = refl
none_by_name Back named = refl
none_by_name request named = absurd (false≢true named)

module _ (request : Request) (bare : arguments_of request ≡ []) (text : List ℕ) where
  -- a request without arguments is read where there are none
  pub alone_read : true ≡ (length text == 0) → ReadsArguments (name_of request) text (Some request)
  alone_read empty =
      let none : text ≡ [] = nil_from_length text (grind (arith, nat_tests, empty)) in
      (((alone request bare).0, refl), none ∙ sym (ap behind_spaces bare))

  -- and nowhere else, nor is another one with its name
  pub unread_alone : false ≡ (length text == 0) → (other : Request) → Fits other × (name_of other ≡ name_of request) → text ≢ behind_spaces (arguments_of other)
  unread_alone some other fits e =
      let named : is_alone (name_of other) ≡ true = ap is_alone fits.1 ∙ (alone request bare).1 in
      let none : text ≡ [] = e ∙ ap behind_spaces (none_by_name other named) in
      false≢true (some ∙ ap (λ t. length t == 0) none)
