-- Facts on each element of a list, and what a filter or a search makes of a list whose elements all pass, or all fail.
use Rattle.std.proofs.Common.{◌≡◌, ℕ, zero, suc, Bool, true, false, cond, List, [], ◌∷◌, ◌++◌, filter, find, slice_get, Some, None, refl, ap, if◌then◌else◌, arith}
use Rattle.std.proofs.lemmas.Bool.{cases_Bool}
use Rattle.std.proofs.lemmas.List.Folds.{find-append}
use Rattle.tree_model.proofs.Common.{AllByRecursion}

module _ {X : Type 0} where
  -- Q of each element follows from P of it
  pub all_map : {P Q : X → Type 0} → ((x : X) → P x → Q x) → (xs : List X) → AllByRecursion P xs → AllByRecursion Q xs
  all_map f [] h = tt
  all_map f (x ∷ xs) h = (f x h.0, all_map f xs h.1)

  pub all-append : (P : X → Type 0) (xs ys : List X) → AllByRecursion P xs → AllByRecursion P ys → AllByRecursion P (xs ++ ys)
  all-append P [] ys h k = k
  all-append P (x ∷ xs) ys h k = (h.0, all-append P xs ys h.1 k)

  -- what holds of each element holds of each that a filter keeps
  pub all-filter : (P : X → Type 0) (test : X → Bool) (xs : List X) → AllByRecursion P xs → AllByRecursion P (filter test xs)
  all-filter P test [] h = tt
  all-filter P test (x ∷ xs) h = grind (arith, cases_Bool, all-filter P test xs h.1)

  -- each element that a filter keeps passes its test
  pub all_passed : (P : X → Type 0) (test : X → Bool) → ((x : X) → test x ≡ true → P x) → (xs : List X) → AllByRecursion P (filter test xs)
  all_passed P test f [] = tt
  all_passed P test f (x ∷ xs) = grind (arith, cases_Bool, all_passed P test f xs)

  -- what holds of each element holds of the one at a place
  pub all_at : (P : X → Type 0) (xs : List X) (i : ℕ) (x : X) → AllByRecursion P xs → slice_get xs i ≡ Some x → P x
  all_at P [] i x all there = absurd (cc)
  all_at P (y ∷ xs) zero x all there = let same : x ≡ y = cc in rw same all.0
  all_at P (y ∷ xs) (suc i) x all there = all_at P xs i x all.1 there

  pub filter_none : (test : X → Bool) (xs : List X) → AllByRecursion (λ x. test x ≡ false) xs → filter test xs ≡ []
  filter_none test [] h = refl
  filter_none test (x ∷ xs) h = rw h.0 (filter_none test xs h.1)

  pub filter_all : (test : X → Bool) (xs : List X) → AllByRecursion (λ x. test x ≡ true) xs → filter test xs ≡ xs
  filter_all test [] h = refl
  filter_all test (x ∷ xs) h = rw h.0 (ap (λ rest. x ∷ rest) (filter_all test xs h.1))

  -- two filters that say the same of each element
  pub filter_same : (test other : X → Bool) → ((x : X) → test x ≡ other x) → (xs : List X) → filter test xs ≡ filter other xs
  filter_same test other same [] = refl
  filter_same test other same (x ∷ xs) = rw (same x) (ap (λ rest. cond (other x) (x ∷ rest) rest) (filter_same test other same xs))

  pub find_none : (test : X → Bool) (xs : List X) → AllByRecursion (λ x. test x ≡ false) xs → find test xs ≡ None
  find_none test [] h = refl
  find_none test (x ∷ xs) h = rw h.0 (find_none test xs h.1)

  pub find_after : (test : X → Bool) (xs ys : List X) → find test xs ≡ None → find test (xs ++ ys) ≡ find test ys
  find_after test xs ys h = grind (arith, find-append test xs ys)

  pub find_before : (test : X → Bool) (xs ys : List X) → find test ys ≡ None → find test (xs ++ ys) ≡ find test xs
  find_before test xs ys h = grind (arith, find-append test xs ys)

  -- a filter that answers alike wherever the search could end keeps what is found, or drops it
  pub find-filter : (test keeps : X → Bool) (answer : Bool) → ((x : X) → test x ≡ true → keeps x ≡ answer) → (xs : List X)
      → find test (filter keeps xs) ≡ (if answer then find test xs else None)
  find-filter test keeps answer f [] = grind arith
  find-filter test keeps answer f (x ∷ xs) = grind (arith, f x, find-filter test keeps answer f xs)

  pub find_kept : (test keeps : X → Bool) → ((x : X) → test x ≡ true → keeps x ≡ true) → (xs : List X) → find test (filter keeps xs) ≡ find test xs
  find_kept test keeps = find-filter test keeps true

  pub find_dropped : (test keeps : X → Bool) → ((x : X) → test x ≡ true → keeps x ≡ false) → (xs : List X) → find test (filter keeps xs) ≡ None
  find_dropped test keeps = find-filter test keeps false
