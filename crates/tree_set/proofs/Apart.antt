-- Two ascending lists side by side: what comes first of the elements that one has and the other lacks.
use Rattle.std.proofs.Common.{◌≡◌, List, [], ◌∷◌, drop, Option, Some, None, Bor, refl, sym, ap, ◌∙◌, not, ◌&&◌, ◌||◌, Ordering, Less, Equal, Greater}
use Rattle.tree_model.proofs.Common.{IsTotalOrder, AllByRecursion, tied_back}
use Rattle.tree_array.proofs.Common.{all-filter, greater_from_less, less_from_greater}
use Rattle.std.specs.Iterator.{YieldsFirstRef}
use Rattle.tree_set.specs.Merges.{AreAscending, difference, symmetric_difference, union}
use Rattle.tree_set.specs.Sets.{IsAscending, has}
use Rattle.tree_set.proofs.Merged.{IsFirst, alone_ascends, alone_elements, alone_equal, alone_greater, alone_less, alone_rest, larger_all, union_alone, union_ascends, union_elements}

-- an element that is smaller than all of the other list comes first of the union
module _ {K : Type 0} {cmp : K → K → Ordering} (o : IsTotalOrder cmp) (x : K) where
  first_before : (xs ys : List K) → AllByRecursion (λ y. cmp x y ≡ Less) ys → union cmp (x ∷ xs) ys ≡ x ∷ union cmp xs ys
  first_before xs [] larger = ap (λ (l : List K). x ∷ l) (sym (union_alone cmp xs))
  first_before xs (y ∷ ys) larger = rw larger.0 refl

  second_before : (xs ys : List K) → AllByRecursion (λ y. cmp x y ≡ Less) xs → union cmp xs (x ∷ ys) ≡ x ∷ union cmp xs ys
  second_before [] ys larger = refl
  second_before (y ∷ xs) ys larger = rw (greater_from_less o x y larger.0) refl

module _ {K : Type 0} {cmp : K → K → Ordering} (o : IsTotalOrder cmp) (xs us ys vs : List K) (x y : K) (is : xs ≡ x ∷ us) (also : ys ≡ y ∷ vs) (ascending : AreAscending cmp xs ys) where
  -- the two lists the other way round
  mirrored : AreAscending cmp ys xs
  mirrored = record { first = ascending.second; second = ascending.first }

  pub apart_less : cmp x y ≡ Less → symmetric_difference cmp xs ys ≡ x ∷ symmetric_difference cmp us ys
  apart_less h =
      let after : AllByRecursion (λ z. cmp x z ≡ Less) ys = rw also (h, larger_all o x y vs h (rw also at ascending.second).0) in
      ap (λ (l : List K). union cmp l (difference cmp ys xs)) (alone_less o xs us ys vs x y is also ascending h)
      ∙ ap (λ (l : List K). union cmp (x ∷ difference cmp us ys) l) (sym (alone_greater o ys vs xs us y x also is mirrored (greater_from_less o x y h)))
      ∙ first_before o x (difference cmp us ys) (difference cmp ys us) (all-filter _ _ ys after)

  pub apart_equal : cmp x y ≡ Equal → symmetric_difference cmp us vs ≡ symmetric_difference cmp xs ys
  apart_equal h =
      ap (λ (l : List K). union cmp l (difference cmp vs us)) (alone_equal o xs us ys vs x y is also ascending h)
      ∙ ap (λ (l : List K). union cmp (difference cmp xs ys) l) (alone_equal o ys vs xs us y x also is mirrored (tied_back o x y h))

  pub apart_greater : cmp x y ≡ Greater → symmetric_difference cmp xs ys ≡ y ∷ symmetric_difference cmp xs vs
  apart_greater h =
      let less = less_from_greater o x y h in
      let after : AllByRecursion (λ z. cmp y z ≡ Less) xs = rw is (less, larger_all o y x us less (rw is at ascending.first).0) in
      ap (λ (l : List K). union cmp (difference cmp xs ys) l) (alone_less o ys vs xs us y x also is mirrored less)
      ∙ ap (λ (l : List K). union cmp l (y ∷ difference cmp vs xs)) (sym (alone_greater o xs us ys vs x y is also ascending h))
      ∙ second_before o y (difference cmp xs vs) (difference cmp vs xs) (all-filter _ _ xs after)

-- one of the two lists has ended
module _ {K : Type 0} (cmp : K → K → Ordering) (xs ys : List K) where
  pub apart_first : (us : List K) (x : K) → xs ≡ x ∷ us → ys ≡ [] → symmetric_difference cmp xs ys ≡ x ∷ symmetric_difference cmp us ys
  apart_first us x is none =
      let gone : (zs : List K) → difference cmp ys zs ≡ [] = λ zs. ap (λ (l : List K). difference cmp l zs) none in
      ap (λ (l : List K). union cmp l (difference cmp ys xs)) (alone_rest cmp xs ys us x is none)
      ∙ ap (λ (l : List K). union cmp (x ∷ difference cmp us ys) l) (gone xs)
      ∙ sym (ap (λ (l : List K). x ∷ union cmp (difference cmp us ys) l) (gone us) ∙ ap (λ (l : List K). x ∷ l) (union_alone cmp (difference cmp us ys)))

  pub apart_second : (r : Option (Bor K)) → xs ≡ [] → IsFirst ys r → YieldsFirstRef (λ l. l) (symmetric_difference cmp xs ys) r (symmetric_difference cmp xs (drop 1 ys))
  apart_second None none first = rw (none, first) (refl, refl)
  apart_second (Some y) none first = rw (none, first) refl

  pub others_ascend : AreAscending cmp xs ys → AreAscending cmp xs (drop 1 ys)
  others_ascend ascending = record { first = ascending.first; second = without_first ys ascending.second }
    where
      without_first : (zs : List K) → IsAscending cmp zs → IsAscending cmp (drop 1 zs)
      without_first [] h = tt
      without_first (z ∷ zs) h = h.1

-- which elements come out, and that they ascend
module _ {K : Type 0} {cmp : K → K → Ordering} (o : IsTotalOrder cmp) (xs ys : List K) where
  pub apart_elements : (k : K) → has cmp (symmetric_difference cmp xs ys) k ≡ ((has cmp xs k && not (has cmp ys k)) || (has cmp ys k && not (has cmp xs k)))
  apart_elements k =
      union_elements o k (difference cmp xs ys) (difference cmp ys xs)
      ∙ ap (λ b. b || has cmp (difference cmp ys xs) k) (alone_elements o xs ys k)
      ∙ ap (λ b. (has cmp xs k && not (has cmp ys k)) || b) (alone_elements o ys xs k)

  pub apart_ascends : IsAscending cmp xs → IsAscending cmp ys → IsAscending cmp (symmetric_difference cmp xs ys)
  apart_ascends first second = union_ascends o (difference cmp xs ys) (difference cmp ys xs) (alone_ascends o xs ys first) (alone_ascends o ys xs second)
