-- Bounds that are moved to elements of a list, and which elements meet them.
use native.Mathlib.Numerals.{unary_clauses}
use Rattle.std.proofs.Common.{◌≡◌, ◌&&◌, Bool, true, false, not, cond, List, [], ◌∷◌, filter, find, Option, Some, None, MatchOption, Bor, refl, sym, ap, subst, ◌∙◌, is_lt, is_le, is_gt, is_eq, Ordering, Less, Equal, Greater}
use Rattle.tree_model.proofs.Common.{IsTotalOrder, AllByRecursion, Bound, Excluded, Unbounded, alike_right, tied_itself, within}
use Rattle.tree_array.proofs.Common.{all-filter, all_at, all_map, filter_none, find_none, greater_from_less, less_from_greater}
use Rattle.tree_leaf.proofs.ChainCommon.{first_of, last_of}
use Rattle.std.specs.Option.{option_copied, option_or}
use Rattle.std.specs.Ordering.{ordering_reverse}
use Rattle.tree_model.specs.Pairs.{meets_lower, meets_upper}
use Rattle.tree_set.specs.Sets.{IsAscending, above, at_or_above, at_or_below, below, element_at}
use Rattle.tree_set.proofs.Merged.{AllLarger, larger_all}

-- what holds of each element holds of one that is found
module _ {X : Type 0} where
  found_has : (P : X → Type 0) (test : X → Bool) (xs : List X) (x : X) → AllByRecursion P xs → find test xs ≡ Some x → P x
  found_has P test [] x all is = absurd (cc)
  found_has P test (y ∷ ys) x all is = by_test (test y) is (λ later. found_has P test ys x all.1 later)
    where
      by_test : (b : Bool) → cond b (Some y) (find test ys) ≡ Some x → (find test ys ≡ Some x → P x) → P x
      by_test true here later = let same : x ≡ y = cc in rw same all.0
      by_test false there later = later there

  -- the last of more elements
  pub last_more : (x y : X) (ys : List X) → last_of (x ∷ y ∷ ys) ≡ last_of (y ∷ ys)
  last_more x y ys = simp unary_clauses

  same_filter : (f g : X → Bool) (xs : List X) → AllByRecursion (λ x. f x ≡ g x) xs → filter f xs ≡ filter g xs
  same_filter f g [] same = refl
  same_filter f g (x ∷ xs) same = rw same.0 (ap (λ rest. cond (g x) (x ∷ rest) rest) (same_filter f g xs same.1))

module _ {K : Type 0} {cmp : K → K → Ordering} (o : IsTotalOrder cmp) where
  -- nothing equals k among larger elements, and nothing is smaller
  none_at : (k : K) (ys : List K) → AllLarger cmp k ys → element_at cmp ys k ≡ None
  none_at k ys larger = find_none (λ x. is_eq (cmp x k)) ys (all_map (λ x h. ap is_eq (greater_from_less o k x h)) ys larger)

  none_below : (k : K) (ys : List K) → AllLarger cmp k ys → below cmp ys k ≡ []
  none_below k ys larger = filter_none (λ x. is_lt (cmp x k)) ys (all_map (λ x h. ap is_lt (greater_from_less o k x h)) ys larger)

  -- the nearest element on one side, of which holds what holds of all
  above_has : (P : K → Type 0) (xs : List K) (k f : K) → AllByRecursion P xs → at_or_above cmp xs k ≡ Some f → P f
  above_has P xs k f all is = by_found (element_at cmp xs k) refl is
    where
      by_found : (r : Option K) → element_at cmp xs k ≡ r → option_or r (first_of (above cmp xs k)) ≡ Some f → P f
      by_found None none first = all_at P (above cmp xs k) 0 f (all-filter P (λ x. is_gt (cmp x k)) xs all) first
      by_found (Some x) found first = let same : x ≡ f = cc in found_has P (λ y. is_eq (cmp y k)) xs f all (found ∙ ap (λ (y : K). Some y) same)

  below_has : (P : K → Type 0) (xs : List K) (k f : K) → AllByRecursion P xs → at_or_below cmp xs k ≡ Some f → P f
  below_has P xs k f all is = by_found (element_at cmp xs k) refl is
    where
      by_found : (r : Option K) → element_at cmp xs k ≡ r → option_or r (last_of (below cmp xs k)) ≡ Some f → P f
      by_found None none last = all_at P (below cmp xs k) _ f (all-filter P (λ x. is_lt (cmp x k)) xs all) last
      by_found (Some x) found last = let same : x ≡ f = cc in found_has P (λ y. is_eq (cmp y k)) xs f all (found ∙ ap (λ (y : K). Some y) same)

  -- elements are smaller than the nearest one above k exactly if they are smaller than k
  abbrev AreParted : List K → K → Option K → Type 0
  AreParted xs k r = MatchOption r (AllByRecursion (λ x. cmp x k ≡ Less) xs) (λ f. AllByRecursion (λ x. is_lt (cmp x f) ≡ is_lt (cmp x k)) xs)

  pub parted_above : (xs : List K) (k : K) (r : Option K) → IsAscending cmp xs → at_or_above cmp xs k ≡ r → AreParted xs k r
  parted_above [] k None h is = tt
  parted_above [] k (Some f) h is = tt
  parted_above (y ∷ ys) k r h is = by_order (cmp y k) refl r is (λ r there. parted_above ys k r h.1 there)
    where
      behind : (z : K) → cmp y k ≡ Greater → cmp y z ≡ Less → is_lt (cmp z y) ≡ is_lt (cmp z k)
      behind z greater less =
          ap is_lt (greater_from_less o y z less) ∙ sym (ap is_lt (greater_from_less o k z (o.trans k y z (less_from_greater o y k greater) less)))

      by_order : (c : Ordering) → cmp y k ≡ c → (r : Option K) → option_or (cond (is_eq c) (Some y) (element_at cmp ys k)) (first_of (cond (is_gt c) (y ∷ above cmp ys k) (above cmp ys k))) ≡ r
          → ((r : Option K) → at_or_above cmp ys k ≡ r → AreParted ys k r) → AreParted (y ∷ ys) k r
      by_order Less c None there later = (c, later None there)
      by_order Less c (Some f) there later =
          (ap is_lt (above_has (λ z. cmp y z ≡ Less) ys k f h.0 there) ∙ sym (ap is_lt c), later (Some f) there)
      by_order Equal c None there later = absurd (cc)
      by_order Equal c (Some f) there later =
          let same : f ≡ y = cc in
          subst (λ (g : K). AreParted (y ∷ ys) k (Some g)) (sym same) (ap is_lt (alike_right o y k y c), all_map (λ z less. ap is_lt (alike_right o y k z c)) ys h.0)
      by_order Greater c None there later = absurd (let none = none_at k ys (larger_all o k y ys (less_from_greater o y k c) h.0) in let some = rw none at there in cc)
      by_order Greater c (Some f) there later =
          let none = none_at k ys (larger_all o k y ys (less_from_greater o y k c) h.0) in
          let some = rw none at there in
          let same : f ≡ y = cc in
          subst (λ (g : K). AreParted (y ∷ ys) k (Some g)) (sym same) (ap is_lt (tied_itself o y) ∙ sym (ap is_lt c), all_map (λ z less. behind z c less) ys h.0)

  -- and larger than the nearest one below k exactly if they are larger than k
  abbrev AreDivided : List K → K → Option K → Type 0
  AreDivided xs k r = MatchOption r (AllByRecursion (λ x. cmp k x ≡ Less) xs) (λ f. AllByRecursion (λ x. is_lt (cmp f x) ≡ is_lt (cmp k x)) xs)

  larger_both : (y k : K) (zs : List K) → AllLarger cmp y zs → AllLarger cmp k zs → AllByRecursion (λ z. is_lt (cmp y z) ≡ is_lt (cmp k z)) zs
  larger_both y k [] a b = tt
  larger_both y k (z ∷ zs) a b = (ap is_lt a.0 ∙ sym (ap is_lt b.0), larger_both y k zs a.1 b.1)

  pub parted_below : (xs : List K) (k : K) (r : Option K) → IsAscending cmp xs → at_or_below cmp xs k ≡ r → AreDivided xs k r
  parted_below [] k None h is = tt
  parted_below [] k (Some f) h is = tt
  parted_below (y ∷ ys) k r h is = by_order (cmp y k) refl r is (λ r there. parted_below ys k r h.1 there)
    where
      further : (f : K) → cmp y k ≡ Less → at_or_below cmp ys k ≡ Some f → AreDivided ys k (Some f) → AreDivided (y ∷ ys) k (Some f)
      further f c there rest =
          (ap is_lt (greater_from_less o y f (below_has (λ z. cmp y z ≡ Less) ys k f h.0 there)) ∙ sym (ap is_lt (greater_from_less o y k c)), rest)

      -- by what is below k in the rest, behind y
      behind : (found : Option K) → element_at cmp ys k ≡ found → (smaller : List K) → below cmp ys k ≡ smaller → cmp y k ≡ Less → (r : Option K) → option_or found (last_of (y ∷ smaller)) ≡ r
          → ((r : Option K) → at_or_below cmp ys k ≡ r → AreDivided ys k r) → AreDivided (y ∷ ys) k r
      behind None none [] nil c None there later = absurd (cc)
      behind None none [] nil c (Some f) there later =
          let same : f ≡ y = cc in
          let rest : AllByRecursion (λ x. cmp k x ≡ Less) ys = later None (rw (none, nil) refl) in
          subst (λ (g : K). AreDivided (y ∷ ys) k (Some g)) (sym same) (ap is_lt (tied_itself o y) ∙ sym (ap is_lt (greater_from_less o y k c)), larger_both y k ys h.0 rest)
      behind None none (w ∷ ws) more c None there later =
          absurd (let empty = none_below k ys (later None (rw (none, more) (sym (last_more y w ws) ∙ there))) in cc)
      behind None none (w ∷ ws) more c (Some f) there later =
          let found : at_or_below cmp ys k ≡ Some f = rw (none, more) (sym (last_more y w ws) ∙ there) in further f c found (later (Some f) found)
      behind (Some x) found smaller is_smaller c None there later = absurd (cc)
      behind (Some x) found smaller is_smaller c (Some f) there later =
          let same : at_or_below cmp ys k ≡ Some f = rw found there in further f c same (later (Some f) same)

      by_order : (c : Ordering) → cmp y k ≡ c → (r : Option K) → option_or (cond (is_eq c) (Some y) (element_at cmp ys k)) (last_of (cond (is_lt c) (y ∷ below cmp ys k) (below cmp ys k))) ≡ r
          → ((r : Option K) → at_or_below cmp ys k ≡ r → AreDivided ys k r) → AreDivided (y ∷ ys) k r
      by_order Less c r there later = behind (element_at cmp ys k) refl (below cmp ys k) refl c r there later
      by_order Equal c None there later = absurd (cc)
      by_order Equal c (Some f) there later =
          let same : f ≡ y = cc in
          subst (λ (g : K). AreDivided (y ∷ ys) k (Some g)) (sym same) (ap is_lt (o.congr y k y c), all_map (λ z less. ap is_lt (o.congr y k z c)) ys h.0)
      by_order Greater c r there later =
          let larger = larger_all o k y ys (less_from_greater o y k c) h.0 in
          let none = rw (none_at k ys larger, none_below k ys larger) at there in
          rw (← none) (less_from_greater o y k c, larger)

-- ranges between bounds that the same elements meet
pub same_within : {K : Type 0} (cmp : K → K → Ordering) (low high low' high' : Bound K) (xs : List K) → AllByRecursion (λ x. meets_lower cmp low' x ≡ meets_lower cmp low x) xs → AllByRecursion (λ x. meets_upper cmp high' x ≡ meets_upper cmp high x) xs
    → filter (within cmp low' high') xs ≡ filter (within cmp low high) xs
same_within {K = K} cmp low high low' high' xs lower upper = same_filter _ _ xs (both xs lower upper)
  where
    both : (ys : List K) → AllByRecursion (λ x. meets_lower cmp low' x ≡ meets_lower cmp low x) ys → AllByRecursion (λ x. meets_upper cmp high' x ≡ meets_upper cmp high x) ys → AllByRecursion (λ x. within cmp low' high' x ≡ within cmp low high x) ys
    both [] a b = tt
    both (y ∷ ys) a b = (rw (a.0, b.0) refl, both ys a.1 b.1)

-- what a bound that is moved to the nearest element excludes
module _ {K : Type 0} {cmp : K → K → Ordering} (o : IsTotalOrder cmp) (xs : List K) (k : K) (ascending : IsAscending cmp xs) where
  le_from_lt : (a b : K) → is_le (cmp a b) ≡ not (is_lt (cmp b a))
  le_from_lt a b = rw (o.antisymm b a) (by_order (cmp a b))
    where
      by_order : (c : Ordering) → is_le c ≡ not (is_lt (ordering_reverse c))
      by_order Less = refl
      by_order Equal = refl
      by_order Greater = refl

  -- a bound behind the nearest element below k
  pub lower_beyond : (r : Option (Bor K)) (b : Bound K) → option_copied r ≡ at_or_below cmp xs k → MatchOption r (b ≡ Unbounded) (λ x. b ≡ Excluded x.now) → AllByRecursion (λ x. meets_lower cmp b x ≡ is_lt (cmp k x)) xs
  lower_beyond None b is bound = rw bound (all_map (λ x h. sym (ap is_lt h)) xs (parted_below o xs k None ascending (sym is)))
  lower_beyond (Some f) b is bound = rw bound (parted_below o xs k (Some f.now) ascending (sym is))

  pub upper_beyond : (r : Option (Bor K)) (b : Bound K) → option_copied r ≡ at_or_above cmp xs k → MatchOption r (b ≡ Unbounded) (λ x. b ≡ Excluded x.now) → AllByRecursion (λ x. meets_upper cmp b x ≡ is_lt (cmp x k)) xs
  upper_beyond None b is bound = rw bound (all_map (λ x h. sym (ap is_lt h)) xs (parted_above o xs k None ascending (sym is)))
  upper_beyond (Some f) b is bound = rw bound (parted_above o xs k (Some f.now) ascending (sym is))

  -- and a bound at the nearest element above k
  pub lower_at : (f : K) → at_or_above cmp xs k ≡ Some f → AllByRecursion (λ x. is_le (cmp f x) ≡ is_le (cmp k x)) xs
  lower_at f is = all_map (λ x h. le_from_lt f x ∙ ap not h ∙ sym (le_from_lt k x)) xs (parted_above o xs k (Some f) ascending is)

  pub upper_at : (f : K) → at_or_below cmp xs k ≡ Some f → AllByRecursion (λ x. is_le (cmp x f) ≡ is_le (cmp x k)) xs
  upper_at f is = all_map (λ x h. le_from_lt x f ∙ ap not h ∙ sym (le_from_lt x k)) xs (parted_below o xs k (Some f) ascending is)

  -- where all elements are smaller than k, or all larger, it matters not whether k is excluded
  all_both : (P Q R : K → Type 0) → ((x : K) → P x → Q x → R x) → (ys : List K) → AllByRecursion P ys → AllByRecursion Q ys → AllByRecursion R ys
  all_both P Q R f [] p q = tt
  all_both P Q R f (y ∷ ys) p q = (f y p.0 q.0, all_both P Q R f ys p.1 q.1)

  pub lower_past : (b : Bound K) → at_or_above cmp xs k ≡ None → AllByRecursion (λ x. meets_lower cmp b x ≡ is_lt (cmp k x)) xs → AllByRecursion (λ x. meets_lower cmp b x ≡ is_le (cmp k x)) xs
  lower_past b none beyond =
      all_both (λ x. cmp x k ≡ Less) _ _ (λ x less h. h ∙ ap is_lt (greater_from_less o x k less) ∙ sym (ap is_le (greater_from_less o x k less))) xs (parted_above o xs k None ascending none) beyond

  pub upper_past : (b : Bound K) → at_or_below cmp xs k ≡ None → AllByRecursion (λ x. meets_upper cmp b x ≡ is_lt (cmp x k)) xs → AllByRecursion (λ x. meets_upper cmp b x ≡ is_le (cmp x k)) xs
  upper_past b none beyond =
      all_both (λ x. cmp k x ≡ Less) _ _ (λ x less h. h ∙ ap is_lt (greater_from_less o k x less) ∙ sym (ap is_le (greater_from_less o k x less))) xs (parted_below o xs k None ascending none) beyond
