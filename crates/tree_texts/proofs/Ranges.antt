-- An index between the bounds of a prefix: a key between them begins with the prefix if the last key there is one by IsKey.
use Rattle.std.proofs.Common.{◌≡◌, ℕ, Bool, true, false, ◌&&◌, List, [], ◌∷◌, ◌++◌, filter, not, refl, sym, ◌∙◌, arith, inl, inr, Less, is_le, nat_cmp}
use Rattle.std.proofs.lemmas.Bool.{cases_Bool, and_parts}
use Rattle.std.proofs.lemmas.Bool.Decides.{nat_tests}
use Rattle.std.specs.Cmp.Lexicographic.{slice_cmp}
use Rattle.std.specs.List.{starts_with}
use Rattle.std.specs.Prelude.{IsTrue, nat_eq, ◌↔◌, ◌≢◌}
use Rattle.tree_model.proofs.Ascending.{IsAscending-filter}
use Rattle.tree_model.proofs.Common.{AllByRecursion, Bound, IsAscending, cut, within}
use Rattle.tree_model.proofs.Lists.{all_passed, filter_all}
use Rattle.tree_model.specs.Pairs.{meets_upper}
use Rattle.tree_texts.specs.Prefix.{BoundPrefix, TellsPrefix, beginning_with, not_beginning_with}

-- one more byte before all three
step : (x y z : ℕ) (prefix key last : List ℕ)
    → (is_le (slice_cmp nat_cmp prefix key) ≡ true → slice_cmp nat_cmp key last ≡ Less → starts_with nat_eq last prefix ≡ true → starts_with nat_eq key prefix ≡ true)
    → is_le (slice_cmp nat_cmp (x ∷ prefix) (y ∷ key)) ≡ true → slice_cmp nat_cmp (y ∷ key) (z ∷ last) ≡ Less → starts_with nat_eq (z ∷ last) (x ∷ prefix) ≡ true
    → starts_with nat_eq (y ∷ key) (x ∷ prefix) ≡ true
step x y z prefix key last rest from less begins = grind (arith, nat_tests)

-- a key from the prefix on that is smaller than one that begins with it begins with it too
pub begins_between : (prefix key last : List ℕ) → is_le (slice_cmp nat_cmp prefix key) ≡ true → slice_cmp nat_cmp key last ≡ Less → starts_with nat_eq last prefix ≡ true
    → starts_with nat_eq key prefix ≡ true
begins_between [] [] last from less begins = refl
begins_between [] (y ∷ key) last from less begins = refl
begins_between (x ∷ prefix) [] last from less begins = absurd (cc)
begins_between (x ∷ prefix) (y ∷ key) [] from less begins = absurd (cc)
begins_between (x ∷ prefix) (y ∷ key) (z ∷ last) from less begins = step x y z prefix key last (begins_between prefix key last) from less begins

module _ {X : Type 0} where
  -- what holds of each holds of the last
  all_last : (P : X → Type 0) (xs : List X) (x : X) → AllByRecursion P (xs ++ x ∷ []) → P x
  all_last P [] x all = all.0
  all_last P (y ∷ ys) x all = all_last P ys x all.1

  -- a test that follows from another, and holds of all that pass that one, is the same at each
  tests_agree : (test other : X → Bool) → ((x : X) → other x ≡ true → test x ≡ true) → (xs : List X)
      → AllByRecursion (λ x. other x ≡ true) (filter test xs) → AllByRecursion (λ x. test x ≡ other x) xs
  tests_agree test other follows [] all = tt
  tests_agree test other follows (x ∷ xs) all =
      elim (cases_Bool (test x)) [
        | inl is ↦ let both = rw is at all in (is ∙ sym both.0, tests_agree test other follows xs both.1)
        | inr isnt ↦
            let neither : other x ≡ false = elim (cases_Bool (other x)) [ inl is ↦ absurd (cc (follows x is)) | inr fails ↦ fails ] in
            (isnt ∙ sym neither, tests_agree test other follows xs (rw isnt at all))
      ]

  filter_agreed : (test other : X → Bool) (xs : List X) → AllByRecursion (λ x. test x ≡ other x) xs → filter test xs ≡ filter other xs
  filter_agreed test other [] same = refl
  filter_agreed test other (x ∷ xs) same = rw (same.0, filter_agreed test other xs same.1) refl

  filter_agreed_not : (test other : X → Bool) (xs : List X) → AllByRecursion (λ x. test x ≡ other x) xs → filter (λ x. not (test x)) xs ≡ filter (λ x. not (other x)) xs
  filter_agreed_not test other [] same = refl
  filter_agreed_not test other (x ∷ xs) same = rw (same.0, filter_agreed_not test other xs same.1) refl

  -- a list isn't empty exactly if a test passes, which fails
  no_pair : (xs : List X) {found : Bool} → (IsTrue found ↔ (xs ≢ [])) → found ≡ false → xs ≡ []
  no_pair [] found none = refl
  no_pair (x ∷ xs) found none = absurd (cc (found.1 (λ is. cc)))

  -- a filter that keeps nothing
  none_pass : (test : X → Bool) (xs : List X) → filter test xs ≡ [] → AllByRecursion (λ x. not (test x) ≡ true) xs
  none_pass test [] none = tt
  none_pass test (x ∷ xs) none =
      elim (cases_Bool (test x)) [
        | inl is ↦ let some = rw is at none in absurd (cc)
        | inr isnt ↦ (rw isnt refl, none_pass test xs (rw isnt at none))
      ]

module _ {V : Type 0} where
  abbrev pairs_between : Bound (List ℕ) × Bound (List ℕ) → List (List ℕ × V) → List (List ℕ × V)
  pairs_between bounds pairs = filter (λ pair. within (slice_cmp nat_cmp) bounds.0 bounds.1 pair.0) pairs

  -- keys from the prefix on, of which the last begins with it
  all_begin : (prefix : List ℕ) (front : List (List ℕ × V)) (last : List ℕ × V) → AllByRecursion (λ pair. is_le (slice_cmp nat_cmp prefix pair.0) ≡ true) (front ++ last ∷ [])
      → IsAscending (slice_cmp nat_cmp) (front ++ last ∷ []) → starts_with nat_eq last.0 prefix ≡ true
      → AllByRecursion (λ pair. starts_with nat_eq pair.0 prefix ≡ true) (front ++ last ∷ [])
  all_begin prefix [] last from ascending begins = (begins, tt)
  all_begin prefix (pair ∷ front) last from ascending begins =
      (begins_between prefix pair.0 last.0 from.0 (all_last (λ other. slice_cmp nat_cmp pair.0 other.0 ≡ Less) front last ascending.0) begins, all_begin prefix front last from.1 ascending.1 begins)

  module _ {IsKey : List ℕ → Type 0} {prefix : List ℕ} {bounds : Bound (List ℕ) × Bound (List ℕ)} (b : BoundPrefix IsKey prefix bounds) (pairs : List (List ℕ × V)) where
    from_prefix : (pair : List ℕ × V) → within (slice_cmp nat_cmp) bounds.0 bounds.1 pair.0 ≡ true → is_le (slice_cmp nat_cmp prefix pair.0) ≡ true
    from_prefix pair is =
        let both : (is_le (slice_cmp nat_cmp prefix pair.0) && meets_upper (slice_cmp nat_cmp) bounds.1 pair.0) ≡ true = rw b.low at is in
        (and_parts (is_le (slice_cmp nat_cmp prefix pair.0)) (meets_upper (slice_cmp nat_cmp) bounds.1 pair.0) both).0

    tells_with : AllByRecursion (λ pair. starts_with nat_eq pair.0 prefix ≡ true) (pairs_between bounds pairs) → TellsPrefix prefix bounds pairs
    tells_with all = tests_agree (λ pair. within (slice_cmp nat_cmp) bounds.0 bounds.1 pair.0) (λ pair. starts_with nat_eq pair.0 prefix) (λ pair. b.all pair.0) pairs all

    -- if no pair is between the bounds
    pub tells_none : pairs_between bounds pairs ≡ [] → TellsPrefix prefix bounds pairs
    tells_none none = tells_with (rw none tt)

    -- if the last one there is known to be a key
    pub tells_last : (front : List (List ℕ × V)) (last : List ℕ × V) → pairs_between bounds pairs ≡ front ++ last ∷ [] → IsAscending (slice_cmp nat_cmp) pairs → IsKey last.0 → TellsPrefix prefix bounds pairs
    tells_last front last are ascending key =
        let inside : AllByRecursion (λ pair. within (slice_cmp nat_cmp) bounds.0 bounds.1 pair.0 ≡ true) (front ++ last ∷ [])
        = rw are at (all_passed (λ pair. within (slice_cmp nat_cmp) bounds.0 bounds.1 pair.0 ≡ true) (λ pair. within (slice_cmp nat_cmp) bounds.0 bounds.1 pair.0) (λ pair is. is) pairs) in
        let from : AllByRecursion (λ pair. is_le (slice_cmp nat_cmp prefix pair.0) ≡ true) (front ++ last ∷ [])
        = rw are at (all_passed (λ pair. is_le (slice_cmp nat_cmp prefix pair.0) ≡ true) (λ pair. within (slice_cmp nat_cmp) bounds.0 bounds.1 pair.0) from_prefix pairs) in
        let ascend : IsAscending (slice_cmp nat_cmp) (front ++ last ∷ []) = rw are at (IsAscending-filter (slice_cmp nat_cmp) (λ pair. within (slice_cmp nat_cmp) bounds.0 bounds.1 pair.0) pairs ascending) in
        let begins : starts_with nat_eq last.0 prefix ≡ true = sym (b.exact last.0 key) ∙ all_last (λ pair. within (slice_cmp nat_cmp) bounds.0 bounds.1 pair.0 ≡ true) front last inside in
        tells_with (rw are (all_begin prefix front last from ascend begins))

    -- so the pairs between the bounds are those that begin with the prefix
    pub between_is : TellsPrefix prefix bounds pairs → pairs_between bounds pairs ≡ beginning_with prefix pairs
    between_is same = filter_agreed (λ pair. within (slice_cmp nat_cmp) bounds.0 bounds.1 pair.0) (λ pair. starts_with nat_eq pair.0 prefix) pairs same

    -- and a cut leaves the others
    pub cut_is : TellsPrefix prefix bounds pairs → cut (slice_cmp nat_cmp) pairs bounds.0 bounds.1 ≡ not_beginning_with prefix pairs
    cut_is same = filter_agreed_not (λ pair. within (slice_cmp nat_cmp) bounds.0 bounds.1 pair.0) (λ pair. starts_with nat_eq pair.0 prefix) pairs same

    -- if there is none, a cut would leave all
    pub none_begin : TellsPrefix prefix bounds pairs → {found : Bool} → (IsTrue found ↔ (pairs_between bounds pairs ≢ [])) → found ≡ false → not_beginning_with prefix pairs ≡ pairs
    none_begin same found none =
        filter_all (λ pair. not (starts_with nat_eq pair.0 prefix)) pairs (none_pass (λ pair. starts_with nat_eq pair.0 prefix) pairs (sym (between_is same) ∙ no_pair (pairs_between bounds pairs) found none))
