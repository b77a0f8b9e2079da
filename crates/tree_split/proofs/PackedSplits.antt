-- What a packed part that is full gives to a new one before it.
use Rattle.std.proofs.Common.{◌≡◌, ◌↔◌, ℕ, zero, suc, ◌≤◌, ◌^◌, Bool, IsTrue, true, cond, List, [], ◌∷◌, length, Option, None, refl, ap, ◌∙◌, arith, is_lt, Ordering, Less}
use Rattle.tree_array.specs.Arrivals.{least_from}
use Rattle.std.proofs.Math.Nat.{pow-suc, pow-zero}
use Rattle.tree_split.proofs.Words.{and_parts, both_true, ascents, reachable, less_from_test, AllByRecursion, Arrivals, IsSound, IsTotalOrder, Stands, TreeArenas, free, held, keyed, node_is, room, IsPacked, is_packed_array, all_smaller, low_part}
use Rattle.tree_split.proofs.Arrays.{packed_boundary, packed_full, packed_marks}
use Rattle.tree_split.proofs.Boundaries.{boundary_count}

-- a packed array without room has an entry in every slot
full_without : {K X : Type 0} (cmp : K → K → Ordering) (len : ℕ) (array : Arrivals K X) → is_packed_array cmp array ≡ true
    → cond array.retired 0 (free len array) ≡ 0
    → length array.entries ≤ len → length array.entries ≡ len
full_without cmp len array packed none few = packed_full cmp len array packed (rw (packed_marks cmp array packed).0 at none) few

pub one_power : (n : ℕ) → n ^ 1 ≡ n
one_power n = pow-suc n 0 ∙ rw (pow-zero n) (omega arith)

module _ {K V : Type 0} {LEN : ℕ} (cmp : K → K → Ordering) (beyond : Option K) where
  -- a packed part without room has an entry, or a keyed child, in every slot
  pub all_held : (level : ℕ) (a : TreeArenas K V LEN) (low : Option K) (x : ℕ) (high : Option K) → Stands cmp level a low x high → IsPacked cmp beyond level a x → room level a x ≡ 0 → held level a x ≡ LEN
  all_held zero a low x high s e none =
      let same : s.leaf ≡ e.leaf = cc (s.here, e.here) in
      rw e.here (full_without cmp LEN e.leaf.array e.packed (rw e.here at none) (rw same at s.few))
  all_held (suc level) a low x high s e none =
      rw e.here (full_without cmp LEN (keyed e.node) e.packed (rw (e.here, e.last_is) at none) (rw (node_is level a low x high s e.node e.here) at s.few))

module _ {K V : Type 0} (cmp : K → K → Ordering) (key : K) where
  -- a key that is beyond all is larger than each, and the other way round
  beyond_all : (pairs : List (K × V)) → AllByRecursion (λ p. cmp p.0 key ≡ Less) pairs → all_smaller cmp key pairs ≡ true
  beyond_all [] smaller = refl
  beyond_all (p ∷ rest) smaller = both_true (ap is_lt smaller.0) (beyond_all rest smaller.1)

  pub all_beyond : (pairs : List (K × V)) → all_smaller cmp key pairs ≡ true → AllByRecursion (λ p. cmp p.0 key ≡ Less) pairs
  all_beyond [] so = tt
  all_beyond (p ∷ rest) so = grind (arith, less_from_test, and_parts, all_beyond rest)

  -- that no key is least from this one on tells whether all are smaller
  least_of_none : (pairs : List (K × V)) → (least_from cmp pairs key ≡ None) ↔ (all_smaller cmp key pairs ≡ true)
  least_of_none [] = ((λ _. refl), (λ _. refl))
  least_of_none (p ∷ rest) = grind (arith, least_of_none rest)

  pub told_beyond : (pairs : List (K × V)) (told : Bool) → (IsTrue told ↔ (least_from cmp pairs key ≡ None)) → told ≡ all_smaller cmp key pairs
  told_beyond pairs told by_least = grind (arith, least_of_none pairs)

module _ {K V : Type 0} {cmp : K → K → Ordering} where
  -- a packed array without room gives all its entries, where the key is beyond them
  pub all_given : IsTotalOrder cmp → (len : ℕ) (array : Arrivals K V) (key : K) → IsSound cmp len array → is_packed_array cmp array ≡ true → cond array.retired 0 (free len array) ≡ 0
      → AllByRecursion (λ p. cmp p.0 key ≡ Less) array.entries → low_part cmp len true array key ≡ len
  all_given o len array key sound packed none smaller =
      let full : length array.entries ≡ len = full_without cmp len array packed none (omega (arith, sound.entries_few, sound.few)) in
      let cut = packed_boundary o len array sound.is_len packed sound.ascending full in
      rw (cut.1, beyond_all cmp key array.entries smaller) (boundary_count len (length array.entries) (ascents cmp (reachable array.arrivals)) ∙ full)
