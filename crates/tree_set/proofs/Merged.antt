-- Two ascending lists side by side: what comes first of their union, of what they have in common and of what the first has alone.
use Rattle.std.proofs.Common.{◌≡◌, Bool, true, false, cond, List, [], ◌∷◌, drop, filter, Option, Some, None, Bor, refl, sym, ap, ◌∙◌, MatchOption, not, ◌&&◌, ◌||◌, is_eq, Ordering, Less, Equal, Greater}
use Rattle.tree_model.proofs.Common.{IsTotalOrder, AllByRecursion, alike_right, tied_back}
use Rattle.tree_array.proofs.Common.{all-filter, all_map, filter_none, equal_from_test, alike, greater_from_less, less_from_greater}
use Rattle.std.specs.Iterator.{YieldsFirstRef}
use Rattle.std.specs.Ordering.{match_ordering}
use Rattle.std.proofs.Math.Bool.{and_comm, or-false}
use Rattle.std.proofs.lemmas.Map.Views.{any-filter_same}
use Rattle.tree_set.specs.Merges.{AreAscending, difference, intersection, union}
use Rattle.tree_set.specs.Sets.{IsAscending, has}

-- r is the first element of the list, if it has one
abbrev pub IsFirst : {K : Type 0} → List K → Option (Bor K) → Type 0
IsFirst xs r = MatchOption r (xs ≡ []) (λ x. xs ≡ x.now ∷ drop 1 xs)

-- each element is larger than x
abbrev pub AllLarger : {K : Type 0} → (K → K → Ordering) → K → List K → Type 0
AllLarger cmp x ys = AllByRecursion (λ y. cmp x y ≡ Less) ys

-- a union, by which element comes first
module _ {K : Type 0} (cmp : K → K → Ordering) where
  pub union_alone : (xs : List K) → union cmp xs [] ≡ xs
  union_alone [] = refl
  union_alone (x ∷ xs) = refl

  pub union_second : (xs ys : List K) (r : Option (Bor K)) → xs ≡ [] → IsFirst ys r → YieldsFirstRef (λ l. l) (union cmp xs ys) r (union cmp xs (drop 1 ys))
  union_second xs ys None none first = rw (none, first) (refl, refl)
  union_second xs ys (Some y) none first = rw none first

  module _ (xs us : List K) (x : K) (is : xs ≡ x ∷ us) where
    pub union_first : (ys : List K) → ys ≡ [] → union cmp xs ys ≡ x ∷ union cmp us ys
    union_first ys none = rw (is, none, union_alone us) refl

    module _ (ys vs : List K) (y : K) (also : ys ≡ y ∷ vs) where
      pub union_less : cmp x y ≡ Less → union cmp xs ys ≡ x ∷ union cmp us ys
      union_less h = rw (is, also, h) refl

      pub union_equal : cmp x y ≡ Equal → union cmp xs ys ≡ x ∷ union cmp us vs
      union_equal h = rw (is, also, h) refl

      pub union_greater : cmp x y ≡ Greater → union cmp xs ys ≡ y ∷ union cmp xs vs
      union_greater h = rw (is, also, h) refl

module _ {K : Type 0} {cmp : K → K → Ordering} (o : IsTotalOrder cmp) where
  pub larger_all : (x y : K) (ys : List K) → cmp x y ≡ Less → AllLarger cmp y ys → AllLarger cmp x ys
  larger_all x y ys less larger = all_map (λ z later. o.trans x y z less later) ys larger

  equal_all : (x y : K) (ys : List K) → cmp x y ≡ Equal → AllLarger cmp y ys → AllLarger cmp x ys
  equal_all x y ys same larger = all_map (λ z later. alike o x y z Less same later) ys larger

  -- no element of a list is equal to one that is smaller than all
  lacks : (x : K) (ys : List K) → AllLarger cmp x ys → has cmp ys x ≡ false
  lacks x [] larger = refl
  lacks x (y ∷ ys) larger = rw (greater_from_less o x y larger.0) (lacks x ys larger.1)

  -- whether a list has an element is the same for equal elements
  pub same_has : (x k : K) → cmp x k ≡ Equal → (ys : List K) → has cmp ys x ≡ has cmp ys k
  same_has x k same [] = refl
  same_has x k same (y ∷ ys) = rw (alike_right o x k y same, same_has x k same ys) refl

  -- an element that is smaller than all of the others has no part in what a filter keeps of them
  passes_over : (f : Bool → Bool) (y : K) (vs zs : List K) → AllLarger cmp y zs → filter (λ z. f (has cmp (y ∷ vs) z)) zs ≡ filter (λ z. f (has cmp vs z)) zs
  passes_over f y vs [] larger = refl
  passes_over f y vs (z ∷ zs) larger = rw larger.0 (ap (λ rest. cond (f (has cmp vs z)) (z ∷ rest) rest) (passes_over f y vs zs larger.1))

  -- one turn, by which first element is smaller
  module _ (xs us ys vs : List K) (x y : K) (is : xs ≡ x ∷ us) (also : ys ≡ y ∷ vs) (ascending : AreAscending cmp xs ys) where
    first_ascends : AllLarger cmp x us × IsAscending cmp us
    first_ascends = rw is at ascending.first

    second_ascends : AllLarger cmp y vs × IsAscending cmp vs
    second_ascends = rw also at ascending.second

    module _ (h : cmp x y ≡ Less) where
      pub less_ascends : AreAscending cmp us ys
      less_ascends = record { first = first_ascends.1; second = ascending.second }

      first_alone : has cmp ys x ≡ false
      first_alone = rw also (lacks x (y ∷ vs) (h, larger_all x y vs h second_ascends.0))

      pub common_less : intersection cmp us ys ≡ intersection cmp xs ys
      common_less = rw (is, first_alone) refl

      pub alone_less : difference cmp xs ys ≡ x ∷ difference cmp us ys
      alone_less = rw (is, first_alone) refl

    module _ (h : cmp x y ≡ Equal) where
      pub equal_ascends : AreAscending cmp us vs
      equal_ascends = record { first = first_ascends.1; second = second_ascends.1 }

      in_both : has cmp ys x ≡ true
      in_both = rw (also, tied_back o x y h) refl

      others_over : (f : Bool → Bool) → filter (λ z. f (has cmp ys z)) us ≡ filter (λ z. f (has cmp vs z)) us
      others_over f = rw also (passes_over f y vs us (equal_all y x us (tied_back o x y h) first_ascends.0))

      pub common_equal : intersection cmp xs ys ≡ x ∷ intersection cmp us vs
      common_equal = rw (is, in_both) (ap (λ (l : List K). x ∷ l) (others_over (λ b. b)))

      pub alone_equal : difference cmp us vs ≡ difference cmp xs ys
      alone_equal = rw (is, in_both) (sym (others_over not))

    module _ (h : cmp x y ≡ Greater) where
      pub greater_ascends : AreAscending cmp xs vs
      greater_ascends = record { first = ascending.first; second = second_ascends.1 }

      all_over : (f : Bool → Bool) → filter (λ z. f (has cmp ys z)) xs ≡ filter (λ z. f (has cmp vs z)) xs
      all_over f =
          let less = less_from_greater o x y h in
          ap (λ (l : List K). filter (λ z. f (has cmp l z)) xs) also ∙ passes_over f y vs xs (rw is (less, larger_all y x us less first_ascends.0))

      pub common_greater : intersection cmp xs vs ≡ intersection cmp xs ys
      common_greater = sym (all_over (λ b. b))

      pub alone_greater : difference cmp xs vs ≡ difference cmp xs ys
      alone_greater = sym (all_over not)

-- one of the two lists has ended
module _ {K : Type 0} (cmp : K → K → Ordering) (xs ys : List K) where
  lacks_all : (zs : List K) → AllByRecursion (λ z. has cmp [] z ≡ false) zs
  lacks_all [] = tt
  lacks_all (z ∷ zs) = (refl, lacks_all zs)

  pub common_none : ys ≡ [] → intersection cmp xs ys ≡ []
  common_none none = rw none (filter_none (λ z. has cmp [] z) xs (lacks_all xs))

  pub alone_rest : (us : List K) (x : K) → xs ≡ x ∷ us → ys ≡ [] → difference cmp xs ys ≡ x ∷ difference cmp us ys
  alone_rest us x is none =
      ap (λ (l : List K). filter (λ z. not (has cmp l z)) xs) none
      ∙ ap (λ (l : List K). filter (λ z. not (has cmp [] z)) l) is
      ∙ ap (λ (l : List K). x ∷ filter (λ z. not (has cmp l z)) us) (sym none)

  pub rest_ascends : (us : List K) (x : K) → xs ≡ x ∷ us → AreAscending cmp xs ys → AreAscending cmp us ys
  rest_ascends us x is ascending = let first = rw is at ascending.first in record { first = first.1; second = ascending.second }

-- which elements come out, and that they ascend
module _ {K : Type 0} {cmp : K → K → Ordering} (o : IsTotalOrder cmp) where
  -- a filter keeps ascending elements ascending
  filter_ascends : (test : K → Bool) (xs : List K) → IsAscending cmp xs → IsAscending cmp (filter test xs)
  filter_ascends test [] h = tt
  filter_ascends test (x ∷ xs) h = kept (test x) (filter_ascends test xs h.1)
    where
      kept : (b : Bool) → IsAscending cmp (filter test xs) → IsAscending cmp (cond b (x ∷ filter test xs) (filter test xs))
      kept true rest = (all-filter _ test xs h.0, rest)
      kept false rest = rest

  pub common_elements : (xs ys : List K) (k : K) → has cmp (intersection cmp xs ys) k ≡ (has cmp xs k && has cmp ys k)
  common_elements xs ys k =
      any-filter_same (λ x. is_eq (cmp x k)) (λ x. has cmp ys x) (has cmp ys k) (λ x equal. same_has o x k (equal_from_test _ equal) ys) xs ∙ and_comm (has cmp ys k) (has cmp xs k)

  pub common_ascends : (xs ys : List K) → IsAscending cmp xs → IsAscending cmp (intersection cmp xs ys)
  common_ascends xs ys h = filter_ascends (λ x. has cmp ys x) xs h

  pub alone_elements : (xs ys : List K) (k : K) → has cmp (difference cmp xs ys) k ≡ (has cmp xs k && not (has cmp ys k))
  alone_elements xs ys k =
      any-filter_same (λ x. is_eq (cmp x k)) (λ x. not (has cmp ys x)) (not (has cmp ys k)) (λ x equal. ap not (same_has o x k (equal_from_test _ equal) ys)) xs ∙ and_comm (not (has cmp ys k)) (has cmp xs k)

  pub alone_ascends : (xs ys : List K) → IsAscending cmp xs → IsAscending cmp (difference cmp xs ys)
  alone_ascends xs ys h = filter_ascends (λ x. not (has cmp ys x)) xs h

  -- what holds of the elements of both lists holds of their union
  module _ (P : K → Type 0) where
    union-all_step : (x : K) (xs : List K) → P x → AllByRecursion P xs → ((zs : List K) → AllByRecursion P zs → AllByRecursion P (union cmp xs zs)) → (ys : List K) → AllByRecursion P ys → AllByRecursion P (union cmp (x ∷ xs) ys)
    union-all_step x xs here all again [] also = (here, all)
    union-all_step x xs here all again (y ∷ ys) also = by_order (cmp x y) (union-all_step x xs here all again ys also.1)
      where
        by_order : (c : Ordering) → AllByRecursion P (union cmp (x ∷ xs) ys) → AllByRecursion P (match_ordering c (x ∷ union cmp xs (y ∷ ys)) (x ∷ union cmp xs ys) (y ∷ union cmp (x ∷ xs) ys))
        by_order Less later = (here, again (y ∷ ys) also)
        by_order Equal later = (here, again ys also.1)
        by_order Greater later = (also.0, later)

    union-all : (xs ys : List K) → AllByRecursion P xs → AllByRecursion P ys → AllByRecursion P (union cmp xs ys)
    union-all [] ys all also = also
    union-all (x ∷ xs) ys all also = union-all_step x xs all.0 all.1 (λ zs those. union-all xs zs all.1 those) ys also

  union_ascends_step : (x : K) (xs : List K) → IsAscending cmp (x ∷ xs) → ((zs : List K) → IsAscending cmp zs → IsAscending cmp (union cmp xs zs)) → (ys : List K) → IsAscending cmp ys → IsAscending cmp (union cmp (x ∷ xs) ys)
  union_ascends_step x xs first again [] second = first
  union_ascends_step x xs first again (y ∷ ys) second = by_order (cmp x y) refl (union_ascends_step x xs first again ys second.1)
    where
      by_order : (c : Ordering) → cmp x y ≡ c → IsAscending cmp (union cmp (x ∷ xs) ys) → IsAscending cmp (match_ordering c (x ∷ union cmp xs (y ∷ ys)) (x ∷ union cmp xs ys) (y ∷ union cmp (x ∷ xs) ys))
      by_order Less h later = (union-all (λ z. cmp x z ≡ Less) xs (y ∷ ys) first.0 (h, larger_all o x y ys h second.0), again (y ∷ ys) second)
      by_order Equal h later = (union-all (λ z. cmp x z ≡ Less) xs ys first.0 (equal_all o x y ys h second.0), again ys second.1)
      by_order Greater h later =
          let less = less_from_greater o x y h in
          (union-all (λ z. cmp y z ≡ Less) (x ∷ xs) ys (less, larger_all o y x xs less first.0) second.0, later)

  pub union_ascends : (xs ys : List K) → IsAscending cmp xs → IsAscending cmp ys → IsAscending cmp (union cmp xs ys)
  union_ascends [] ys first second = second
  union_ascends (x ∷ xs) ys first second = union_ascends_step x xs first (λ zs those. union_ascends xs zs first.1 those) ys second

  module _ (k : K) where
    here_or : (b c d : Bool) → (b || (c || d)) ≡ ((b || c) || d)
    here_or true c d = refl
    here_or false c d = refl

    there_or : (b c d : Bool) → (b || (c || d)) ≡ (c || (b || d))
    there_or true true d = refl
    there_or true false d = refl
    there_or false c d = refl

    twice_or : (b c d : Bool) → (b || (c || d)) ≡ ((b || c) || (b || d))
    twice_or true c d = refl
    twice_or false c d = refl

    union_elements_step : (x : K) (xs : List K) → ((zs : List K) → has cmp (union cmp xs zs) k ≡ (has cmp xs k || has cmp zs k)) → (ys : List K) → has cmp (union cmp (x ∷ xs) ys) k ≡ (has cmp (x ∷ xs) k || has cmp ys k)
    union_elements_step x xs again [] = sym (or-false (has cmp (x ∷ xs) k))
    union_elements_step x xs again (y ∷ ys) = by_order (cmp x y) refl (union_elements_step x xs again ys)
      where
        by_order : (c : Ordering) → cmp x y ≡ c → has cmp (union cmp (x ∷ xs) ys) k ≡ (has cmp (x ∷ xs) k || has cmp ys k) → has cmp (match_ordering c (x ∷ union cmp xs (y ∷ ys)) (x ∷ union cmp xs ys) (y ∷ union cmp (x ∷ xs) ys)) k ≡ (has cmp (x ∷ xs) k || has cmp (y ∷ ys) k)
        by_order Less h later = ap (λ b. is_eq (cmp x k) || b) (again (y ∷ ys)) ∙ here_or (is_eq (cmp x k)) (has cmp xs k) (has cmp (y ∷ ys) k)
        by_order Equal h later =
            let equal : cmp y k ≡ cmp x k = sym (o.congr x y k h) in
            rw equal (ap (λ b. is_eq (cmp x k) || b) (again ys) ∙ twice_or (is_eq (cmp x k)) (has cmp xs k) (has cmp ys k))
        by_order Greater h later = ap (λ b. is_eq (cmp y k) || b) later ∙ there_or (is_eq (cmp y k)) (has cmp (x ∷ xs) k) (has cmp ys k)

    pub union_elements : (xs ys : List K) → has cmp (union cmp xs ys) k ≡ (has cmp xs k || has cmp ys k)
    union_elements [] ys = refl
    union_elements (x ∷ xs) ys = union_elements_step x xs (union_elements xs) ys
