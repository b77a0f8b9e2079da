-- What words of the command line are.
use Rattle.std.proofs.Common.{◌≡◌, ◌∷◌, ℕ, ◌<◌, ◌≤◌, List, [], length, get_or, map, arith, refl}

pub one_word : {X : Type 0} (f : X → List ℕ) (xs : List X) (a : X) → 1 ≤ length xs → length xs < 2 → a ≡ get_or xs 0 a → map f xs ≡ f a ∷ []
one_word f [] a least below is = absurd (omega (arith, least))
one_word f (x ∷ []) a least below is = rw is refl
one_word f (x ∷ y ∷ xs) a least below is = absurd (omega (arith, below))

pub two_words : {X : Type 0} (f : X → List ℕ) (xs : List X) (a b : X) → 2 ≤ length xs → length xs < 3 → a ≡ get_or xs 0 a → b ≡ get_or xs 1 b → map f xs ≡ f a ∷ f b ∷ []
two_words f [] a b least below is next = absurd (omega (arith, least))
two_words f (x ∷ []) a b least below is next = absurd (omega (arith, least))
two_words f (x ∷ y ∷ []) a b least below is next = rw (is, next) refl
two_words f (x ∷ y ∷ z ∷ xs) a b least below is next = absurd (omega (arith, below))

pub three_words : {X : Type 0} (f : X → List ℕ) (xs : List X) (a b c : X) → 3 ≤ length xs → length xs < 4 → a ≡ get_or xs 0 a → b ≡ get_or xs 1 b → c ≡ get_or xs 2 c → map f xs ≡ f a ∷ f b ∷ f c ∷ []
three_words f [] a b c least below is next last = absurd (omega (arith, least))
three_words f (x ∷ []) a b c least below is next last = absurd (omega (arith, least))
three_words f (x ∷ y ∷ []) a b c least below is next last = absurd (omega (arith, least))
three_words f (x ∷ y ∷ z ∷ []) a b c least below is next last = rw (is, next, last) refl
three_words f (x ∷ y ∷ z ∷ w ∷ xs) a b c least below is next last = absurd (omega (arith, below))
