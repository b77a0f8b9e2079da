-- A list that a walk steps through from either end: what lies ahead of it, and what a step takes of that.
use Rattle.tree_leaf.proofs.ChainCommon.{◌≡◌, ℕ, suc, ◌+◌, ◌-◌, ◌<◌, List, [], ◌∷◌, ◌++◌, length, drop, take, reverse, slice_get, get_or, Option, Some, None, refl, sym, ap, ◌∙◌, arith, flat_map}
use Rattle.tree_leaf.proofs.ChainCommon.{append-nil, take-suc, take_all, AllByRecursion, reverse_onto, drop_all, reverse-append, reverse-reverse, flat_map-append, along, Back, On, StepsOver, Way, ahead}
use Rattle.std.proofs.Common.{if◌then◌else◌, option_and_then}
use Rattle.tree_leaf.proofs.ChainCommon.{◌==◌, true, false, nat_tests, slice_get_past}
use Rattle.tree_leaf.proofs.ChainCommon.{drop_more, first_of, first_on, get_or_from_slice_get, next_place, places_left, slice_get-get_or, slice_get_within, reverse_aux, place_ahead, places_behind}

-- the entry at a place begins what lies from there on, and ends what lies up to it
begins : {X : Type 0} (xs : List X) (place : ℕ) (x : X) → slice_get xs place ≡ Some x → drop place xs ≡ x ∷ drop (place + 1) xs
begins xs place x is = drop_more xs place x (slice_get_within xs place x is) ∙ ap (λ y. y ∷ drop (place + 1) xs) (get_or_from_slice_get xs place x x is)

ends : {X : Type 0} (xs : List X) (place : ℕ) (x : X) → slice_get xs place ≡ Some x → take (suc place) xs ≡ take place xs ++ x ∷ []
ends xs place x is = take-suc xs place x (slice_get_within xs place x is) ∙ ap (λ y. take place xs ++ y ∷ []) (get_or_from_slice_get xs place x x is)

pub not_none : {X : Type 0} (x : X) (xs : List X) → (length (x ∷ xs) == 0) ≡ false
not_none x xs = grind (arith, nat_tests)

-- the place that a walk stands at once it has come to the first element on its way, if there is one
abbrev pub first_at : {X : Type 0} → Way → List X → Option ℕ
first_at way xs = if length xs == 0 then None else Some (next_place way (length xs) None)

-- what holds of all of a list holds of them in another order
pub all_reversed : {X : Type 0} (P : X → Type 0) (xs ys : List X) → AllByRecursion P xs → AllByRecursion P ys → AllByRecursion P (reverse_aux xs ys)
all_reversed P [] ys first second = second
all_reversed P (x ∷ xs) ys first second = all_reversed P xs (x ∷ ys) first.1 (first.0, second)

pub all_along : {X : Type 0} (P : X → Type 0) (way : Way) (xs : List X) → AllByRecursion P xs → AllByRecursion P (along way xs)
all_along P On xs all = all
all_along P Back xs all = all_reversed P xs [] all tt

pub along-nil : (X : Type 0) (way : Way) → along {X = X} way [] ≡ []
along-nil X way = grind arith

-- all places are left before the first step
pub all_left : (way : Way) (count : ℕ) → places_left way count None ≡ count
all_left way count = grind arith

module _ {X : Type 0} where
  pub along_empty : (way : Way) (xs : List X) → along way xs ≡ [] → xs ≡ []
  along_empty On xs is = is
  along_empty Back xs is = sym (reverse-reverse xs) ∙ ap reverse is

  pub all_ahead : (way : Way) (xs : List X) → ahead way xs None ≡ along way xs
  all_ahead On xs = refl
  all_ahead Back xs = ap reverse (take_all (length xs) xs (omega arith))

  -- a step takes the first of what lies ahead, or nothing does
  pub step_takes : (way : Way) (xs : List X) (old new : Option ℕ) (x : X) → StepsOver way xs old (Some x) new → ahead way xs old ≡ x ∷ ahead way xs new
  step_takes On xs old new x steps = rw steps.2 (begins xs (place_ahead old) x steps.1)
  step_takes Back xs old new x steps =
      let behind = places_behind (length xs) old in
      let one_more : behind ≡ suc (behind - 1) = omega (arith, steps.0) in
      rw steps.2 (ap reverse (ap (λ n. take n xs) one_more ∙ ends xs (behind - 1) x steps.1) ∙ reverse-append (take (behind - 1) xs) (x ∷ []))

  pub none_ahead : (way : Way) (xs : List X) (old new : Option ℕ) → StepsOver way xs old None new → ahead way xs old ≡ []
  none_ahead On xs old new steps = drop_all (place_ahead old) xs (omega (arith, steps.0))
  none_ahead Back xs old new steps = rw steps.0 refl

  -- a step leaves fewer places
  pub fewer_left : (way : Way) (xs : List X) (old new : Option ℕ) (x : X) → StepsOver way xs old (Some x) new → places_left way (length xs) new < places_left way (length xs) old
  fewer_left way xs old new x steps = rw steps.2 (grind (arith, steps.0))

  -- a list with an element has a first step
  pub record FirstStep (way : Way) (xs : List X) : Type 0 where
    pub first : X
    pub steps : StepsOver way xs None (Some first) (Some (next_place way (length xs) None))

  pub first_step : (way : Way) (x : X) (xs : List X) → FirstStep way (x ∷ xs)
  first_step On x xs = record { first = x; steps = (omega arith, refl, refl) }
  first_step Back x xs = record { first = get_or (x ∷ xs) (length (x ∷ xs) - 1) x; steps = (omega arith, slice_get-get_or (x ∷ xs) (length (x ∷ xs) - 1) x (omega arith), refl) }

  pub first_place : (way : Way) (xs : List X) → first_on way xs ≡ slice_get xs (next_place way (length xs) None)
  first_place way xs = grind arith

  -- the first step of a walk leads to the first element on its way, if there is one
  pub first_taken : (way : Way) (xs : List X) (taken : Option X) (at : Option ℕ) → StepsOver way xs None taken at → (taken ≡ first_on way xs) × (at ≡ first_at way xs)
  first_taken way xs None at steps =
      let none : (length xs == 0) ≡ true = grind (arith, nat_tests, all_left way (length xs), steps.0) in
      rw (first_place way xs, slice_get_past xs (next_place way (length xs) None) (omega (arith, all_left way (length xs), steps.0)), none) (refl, steps.1)
  first_taken way xs (Some x) at steps =
      let some : (length xs == 0) ≡ false = grind (arith, nat_tests, all_left way (length xs), steps.0) in
      rw (first_place way xs, steps.1, some) (refl, steps.2)

  pub first_stood : (way : Way) (xs : List X) → option_and_then (slice_get xs) (first_at way xs) ≡ first_on way xs
  first_stood way [] = sym (first_place way [])
  first_stood way (x ∷ xs) = rw (not_none x xs) (sym (first_place way (x ∷ xs)))

  pub first_along : (way : Way) (xs : List X) → first_on way xs ≡ first_of (along way xs)
  first_along On xs = refl
  first_along Back [] = refl
  first_along Back (x ∷ xs) =
      let first = first_step Back x xs in
      let taken = step_takes Back (x ∷ xs) None _ first.first first.steps in
      first.steps.1 ∙ sym (ap first_of (sym (all_ahead Back (x ∷ xs)) ∙ taken))

-- what a list of lists holds, along a way
pub along-flat_map : {X Y : Type 0} (way : Way) (f : X → List Y) (xs : List X) → along way (flat_map f xs) ≡ flat_map (λ x. along way (f x)) (along way xs)
along-flat_map On f xs = refl
along-flat_map Back f [] = refl
along-flat_map Back f (x ∷ xs) =
    rw (reverse_onto xs x [], flat_map-append (λ y. reverse (f y)) (reverse xs) (x ∷ []), append-nil (reverse (f x)), ← along-flat_map Back f xs)
    (reverse-append (f x) (flat_map f xs))
