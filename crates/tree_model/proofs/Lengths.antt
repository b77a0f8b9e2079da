-- How long an edit leaves a list of pairs.
use Rattle.std.proofs.Common.{◌≡◌, ℕ, suc, ◌+◌, ◌≤◌, if◌then◌else◌, List, [], ◌∷◌, filter, length, length-append, refl, arith, Ordering, is_lt, is_eq, is_gt}
use Rattle.tree_model.proofs.Common.{IsTotalOrder, IsAbsent, IsAscending, IsPresent, above, below, put, without, tied_back}
use Rattle.tree_model.proofs.Lists.{all_map}
use Rattle.tree_model.proofs.LookUps.{none_larger}

-- an element goes to one of three lists
one_of_three : {X : Type 0} (c : Ordering) (x : X) (less same more : List X) (n : ℕ) → length less + (length same + length more) ≡ n
    → length (if is_lt c then x ∷ less else less) + (length (if is_eq c then x ∷ same else same) + length (if is_gt c then x ∷ more else more)) ≡ suc n
one_of_three c x less same more n h = grind arith

module _ {K V : Type 0} (cmp : K → K → Ordering) where
  -- the pairs whose key equals k
  abbrev equal_to : List (K × V) → K → List (K × V)
  equal_to l k = filter (λ p. is_eq (cmp p.0 k)) l

  sides : (l : List (K × V)) (k : K) → length (below cmp l k) + (length (equal_to l k) + length (above cmp l k)) ≡ length l
  sides [] k = refl
  sides (p ∷ ps) k = one_of_three (cmp p.0 k) p (below cmp ps k) (equal_to ps k) (above cmp ps k) (length ps) (sides ps k)

  none_equal : (l : List (K × V)) (k : K) → IsAbsent cmp l k → equal_to l k ≡ []
  none_equal [] k absent = refl
  none_equal (p ∷ ps) k absent = grind (arith, none_equal ps k)

  pub length-put : (l : List (K × V)) (k : K) (v : V) → length (put cmp l k v) ≡ suc (length (without cmp l k))
  length-put l k v = simp length-append (omega arith)

  -- taking a key out takes at most one pair out, and none if the key is absent
  pub without_few : (l : List (K × V)) (k : K) → length (without cmp l k) ≤ length l
  without_few l k = simp length-append (omega (arith, sides l k))

  pub without_absent : (l : List (K × V)) (k : K) → IsAbsent cmp l k → length (without cmp l k) ≡ length l
  without_absent l k absent = simp length-append (omega (arith, rw (none_equal l k absent) at (sides l k)))

module _ {K V : Type 0} {cmp : K → K → Ordering} (o : IsTotalOrder cmp) where
  -- a present key stands once
  one_equal : (l : List (K × V)) (k : K) → IsAscending cmp l → IsPresent cmp l k → length (equal_to cmp l k) ≡ 1
  one_equal [] k ascending present = absurd (cc)
  one_equal (p ∷ ps) k ascending present = grind (arith, none_larger, all_map, none_equal, tied_back, one_equal ps k ascending.1)

  pub without_present : (l : List (K × V)) (k : K) → IsAscending cmp l → IsPresent cmp l k → suc (length (without cmp l k)) ≡ length l
  without_present l k ascending present = simp length-append (omega (arith, sides cmp l k, one_equal l k ascending present))
