-- The boundary of an array parts its entries: some are before it, and some are not.
use Rattle.std.proofs.Common.{◌≡◌, ℕ, ◌<◌, ◌≤◌, List, [], ◌∷◌, length, arith, Ordering}
use Rattle.tree_split.proofs.Words.{ascents, reachable, boundary_of, Arrivals, IsSound, boundary, limit, nat_tests}

module _ (len count rises : ℕ) where
  pub boundary_count : (boundary_of len count rises).1 ≡ count
  boundary_count = grind (arith, nat_tests)

module _ {K V : Type 0} (cmp : K → K → Ordering) where
  ascents_below : (pair : K × V) (pairs : List (K × V)) → ascents cmp (pair ∷ pairs) ≤ length pairs
  ascents_below pair [] = omega arith
  ascents_below pair (next ∷ pairs) = let later = ascents_below next pairs in grind arith

  -- fewer neighbours ascend than there are pairs
  pub ascents_fewer : (pairs : List (K × V)) → 0 < length pairs → ascents cmp pairs < length pairs
  ascents_fewer [] some = absurd (omega arith)
  ascents_fewer (pair ∷ pairs) some = omega (arith, ascents_below pair pairs)

  -- above the limit some entries are before the boundary, and some are not
  pub parted_by : (len : ℕ) (array : Arrivals K V) → IsSound cmp len array → limit len < length array.entries
      → (0 < (boundary cmp len array).0) × ((boundary cmp len array).0 < length array.entries)
  parted_by len array sound many =
      let fewer = ascents_fewer (reachable array.arrivals) (omega (arith, sound.count, many)) in grind (arith, nat_tests, sound.count, sound.is_len)

  -- the boundary is the number of slots where the entries are within the limit, and nowhere else
  pub few_by_boundary : (len : ℕ) (array : Arrivals K V) → IsSound cmp len array → (boundary cmp len array).0 ≡ len → length array.entries ≤ limit len
  few_by_boundary len array sound at_len = grind (arith, at_len, parted_by len array sound, sound.entries_few, sound.few)

  pub many_by_boundary : (len : ℕ) (array : Arrivals K V) → ((boundary cmp len array).0 ≡ len → ⊥) → limit len < length array.entries
  many_by_boundary len array not_at_len = grind (arith, nat_tests)
