-- Where a key is in an ascending list, told by the first place whose key isn't smaller.
use Rattle.tree_cursors.proofs.RangesCommon.{◌≡◌, ℕ, zero, suc, ◌<◌, ◌==◌, Bool, true, false, if◌then◌else◌, List, [], ◌∷◌, length, slice_get, Option, Some, None, refl, ap, arith, is_some, option_map}
use Rattle.tree_cursors.proofs.RangesCommon.{is_eq, is_le, Ordering, Less, Equal, Greater, IsTotalOrder, Included, Unbounded, nat_tests, AllLarger, IsAscending, below, pair_at, End, unopened, at_place}
use Rattle.tree_cursors.proofs.RangesCommon.{element_at, greatest_place, meets, next_end, Cursor, Back, On, all_map, end_at, least_place, located, located_at, slice_get_within, with_ends, ProximityOf, Exact}
use Rattle.tree_cursors.proofs.RangesCommon.{Between, Smaller, Larger, Empty, none_larger, ordering_reverse, is_at, located_beside, located_past}
use Rattle.tree_model.proofs.Ascending.{all_above as parted}
use Rattle.tree_cursors.proofs.Ahead.{above_le, there_is}

module _ {K V : Type 0} {cmp : K → K → Ordering} (o : IsTotalOrder cmp) (k : K) where
  -- what is larger than a key that isn't smaller is larger than k
  pub all_above : (x : K × V) (xs : List (K × V)) → AllLarger cmp x.0 xs → is_le (cmp k x.0) ≡ true → AllLarger cmp k xs
  all_above x xs larger le = all_map (λ (q : K × V) (less : cmp x.0 q.0 ≡ Less). above_le o k x.0 q.0 le less) xs larger

  -- what the first such place tells of the key, and that there is none
  abbrev IsFound : List (K × V) → Option ℕ → Type 0
  IsFound l None = (length (below cmp l k) ≡ length l) × (is_some (pair_at cmp l k) ≡ false)
  IsFound l (Some n) = (x : K × V) × (slice_get l n ≡ Some x) × (length (below cmp l k) ≡ n) × (is_some (pair_at cmp l k) ≡ is_eq (cmp x.0 k))

  found_more : (x : K × V) (xs : List (K × V)) → AllLarger cmp x.0 xs → (found : Option ℕ) → IsFound xs found → (r : Ordering) → cmp x.0 k ≡ r
      → IsFound (x ∷ xs) (if is_le (ordering_reverse r) then Some 0 else option_map (λ i. suc i) found)
  found_more x xs larger None is Less h = (rw h (ap (λ n. suc n) is.0), rw h is.1)
  found_more x xs larger (Some n) is Less h = (is.0, is.1, rw h (ap (λ n. suc n) is.2), rw h is.3)
  found_more x xs larger found is Equal h = (x, refl, rw (h, (parted o k xs (all_above x xs larger (rw (o.antisymm k x.0, h) refl))).0) refl, rw h refl)
  found_more x xs larger found is Greater h =
      let later = all_above x xs larger (rw (o.antisymm k x.0, h) refl) in
      (x, refl, rw (h, (parted o k xs later).0) refl, rw (h, none_larger o k xs later) refl)

  is_found : (l : List (K × V)) → IsAscending cmp l → IsFound l (least_place (λ pair. meets cmp On (Included k) pair.0) l)
  is_found [] ascending = (refl, refl)
  is_found (x ∷ xs) ascending = rw (o.antisymm k x.0) (found_more x xs ascending.0 _ (is_found xs ascending.1) (cmp x.0 k) refl)

module _ {K V : Type 0} (cmp : K → K → Ordering) where
  -- what is told by an end at a place of the list, and where no key is larger
  beside_at : (l : List (K × V)) (n : ℕ) → n < length l → located_beside cmp l (at_place n) ≡ located_at l n false
  beside_at l zero lt = let some : (length l == 0) ≡ false = grind (arith, nat_tests) in rw some refl
  beside_at l (suc n) lt = let before = there_is l n (omega arith) in grind (arith, nat_tests)

  last_place : (x : K × V) (xs : List (K × V)) → greatest_place (λ _. true) (x ∷ xs) ≡ Some (length xs)
  last_place x [] = refl
  last_place x (y ∷ ys) = rw (last_place y ys) refl

  past_at : (l : List (K × V)) → located_past cmp l ≡ located_at l (length l) false
  past_at [] = refl
  past_at (x ∷ xs) =
      let last = there_is (x ∷ xs) (length xs) (omega arith) in
      let at = last_place x xs in grind (arith, nat_tests)

  -- where a key is, by what a search from it on has come to
  abbrev pub located_by : List (K × V) → K → End → Option (K × V) → ProximityOf (Cursor K V)
  located_by l k end found = if is_at cmp k found then Exact
      (with_ends l end unopened) else if is_some found then located_beside cmp l end else located_past cmp l

module _ {K V : Type 0} {cmp : K → K → Ordering} (o : IsTotalOrder cmp) (k : K) (l : List (K × V)) (ascending : IsAscending cmp l) where
  found_is : (found : Option ℕ) → IsFound o k l found → (e : Option (K × V)) → element_at l (end_at found) ≡ e
      → located_by cmp l k (end_at found) e ≡ located cmp l k
  found_is None is e here = rw (← here, is.0, is.1) (past_at cmp l)
  found_is (Some n) is e here = rw (← here, is.1, is.2, is.3) (by_test (is_eq (cmp is.0.0 k)) (slice_get_within l n is.0 is.1))
    where
      by_test : (b : Bool) → n < length l → (if b then Exact (with_ends l (at_place n) unopened) else located_beside cmp l (at_place n)) ≡ located_at l n b
      by_test true lt = let some : (length l == 0) ≡ false = grind (arith, nat_tests) in rw some refl
      by_test false lt = beside_at cmp l n lt

  pub located_is : (first : End) → first ≡ next_end cmp On (Included k) l unopened → (e : Option (K × V)) → element_at l first ≡ e
      → located_by cmp l k first e ≡ located cmp l k
  located_is first is e here = rw is (found_is _ (is_found o k l ascending) e (rw is at here))

-- by whether the end stands on a pair that is beside
module _ {K V : Type 0} (cmp : K → K → Ordering) (l : List (K × V)) where
  pub past_is : (last : End) → last ≡ next_end cmp Back Unbounded l unopened → (b : Bool) → is_some (element_at l last) ≡ b
      → (if b then Smaller (with_ends l unopened last) else Empty) ≡ located_past cmp l
  past_is last is b some = rw is (let told = rw is at some in rw told refl)

  pub beside_is : (end before : End) → before ≡ next_end cmp Back Unbounded l end → (b : Bool) → is_some (element_at l before) ≡ b
      → (if b then Between (with_ends l before end) else Larger (with_ends l end unopened)) ≡ located_beside cmp l end
  beside_is end before is b some = rw is (let told = rw is at some in rw told refl)
