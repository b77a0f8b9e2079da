-- The first place on a way whose element passes, and the place beside one, told by how many places are left behind it.
use Rattle.tree_cursors.proofs.Common.{◌≡◌, ℕ, suc, zero, ◌<◌, ltb, Bool, true, false, List, [], ◌∷◌, ◌++◌, length, reverse, slice_get, Some, None, refl, sym, ap, ◌∙◌, arith, length-append}
use Rattle.tree_cursors.proofs.Common.{append_assoc, is_lt, Ordering, Less, Greater, AllByRecursion, IsTotalOrder, nat_tests, tied_itself, reverse_onto, reverse-append, reverse-reverse, IsAscending}
use Rattle.tree_cursors.proofs.Common.{along, greatest_place, all_at, Way, On, Back, greater_from_less, length-reverse, places_left, all_reversed, first_place, least_place, place_beside}

module _ {X : Type 0} (test : X → Bool) where
  abbrev pub Fail : List X → Type 0
  Fail xs = AllByRecursion (λ x. test x ≡ false) xs

  least_is : (passed : List X) (x : X) (left : List X) → Fail passed → test x ≡ true → least_place test (passed ++ x ∷ left) ≡ Some (length passed)
  least_is [] x left none met = rw met refl
  least_is (y ∷ passed) x left none met = rw (none.0, least_is passed x left none.1 met) refl

  least_none : (xs : List X) → Fail xs → least_place test xs ≡ None
  least_none [] none = refl
  least_none (x ∷ xs) none = rw (none.0, least_none xs none.1) refl

  greatest_none : (xs : List X) → Fail xs → greatest_place test xs ≡ None
  greatest_none [] none = refl
  greatest_none (x ∷ xs) none = rw (none.0, greatest_none xs none.1) refl

  greatest_is : (front : List X) (x : X) (passed : List X) → Fail passed → test x ≡ true → greatest_place test (front ++ x ∷ passed) ≡ Some (length front)
  greatest_is [] x passed none met = rw (greatest_none passed none, met) refl
  greatest_is (y ∷ front) x passed none met = rw (greatest_is front x passed none met) refl

  -- the first place is that of the first element on the way that passes
  pub first_is : (way : Way) (xs passed : List X) (x : X) (left : List X) (i : ℕ) → along way xs ≡ passed ++ x ∷ left → Fail passed → test x ≡ true
      → i < length xs → places_left way (length xs) (Some i) ≡ length left → first_place way test xs ≡ Some i
  first_is On xs passed x left i parts none met inside left_is =
      let count = ap length parts ∙ length-append passed (x ∷ left) in
      let place : length passed ≡ i = omega arith in
      rw (parts, least_is passed x left none met, place) refl
  first_is Back xs passed x left i parts none met inside left_is =
      let whole : xs ≡ reverse left ++ x ∷ reverse passed =
      sym (reverse-reverse xs) ∙ ap reverse parts ∙ reverse-append passed (x ∷ left) ∙ ap (λ ys. ys ++ reverse passed) (reverse_onto left x []) ∙ simp append_assoc refl in
      let place : length (reverse left) ≡ i = omega (arith, length-reverse left) in
      rw (whole, greatest_is (reverse left) x (reverse passed) (all_reversed _ passed [] none tt) met, place) refl

  pub first_none : (way : Way) (xs : List X) → Fail (along way xs) → first_place way test xs ≡ None
  first_none On xs none = least_none xs none
  first_none Back xs none = greatest_none xs (rw (reverse-reverse xs) at (all_reversed _ (reverse xs) [] none tt))

-- one place along, one fewer is left
pub beside_is : (way : Way) (len i j : ℕ) → i < len → j < len → places_left way len (Some i) ≡ suc (places_left way len (Some j)) → place_beside way len i ≡ Some j
beside_is On len i j inside there fewer = grind (arith, nat_tests)
beside_is Back len i j inside there fewer = rw fewer refl

pub beside_none : (way : Way) (len i : ℕ) → places_left way len (Some i) ≡ 0 → place_beside way len i ≡ None
beside_none On len i none = grind (arith, nat_tests)
beside_none Back len i none = rw none refl

-- keys compare as their places
pub places_compare : {K V : Type 0} {cmp : K → K → Ordering} → IsTotalOrder cmp → (l : List (K × V)) (i j : ℕ) (x y : K × V) → IsAscending cmp l → slice_get l i ≡ Some x → slice_get l j ≡ Some y → is_lt (cmp x.0 y.0) ≡ ltb i j
places_compare o [] i j x y ascending at_i at_j = absurd (cc)
places_compare o (p ∷ ps) zero zero x y ascending at_i at_j = grind (arith, nat_tests, tied_itself o p.0)
places_compare {cmp = cmp} o (p ∷ ps) zero (suc j) x y ascending at_i at_j =
    let later : cmp p.0 y.0 ≡ Less = all_at (λ q. cmp p.0 q.0 ≡ Less) ps j y ascending.0 at_j in grind (arith, nat_tests)
places_compare {cmp = cmp} o (p ∷ ps) (suc i) zero x y ascending at_i at_j =
    let later : cmp x.0 p.0 ≡ Greater = greater_from_less o p.0 x.0 (all_at (λ q. cmp p.0 q.0 ≡ Less) ps i x ascending.0 at_i) in grind (arith, nat_tests)
places_compare o (p ∷ ps) (suc i) (suc j) x y ascending at_i at_j = grind (arith, nat_tests, places_compare o ps i j x y ascending.1 at_i at_j)
