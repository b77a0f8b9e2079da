-- An array with an entry in each slot, where the entries arrived in ascending order: it is what it would be if they arrived anew.
use Rattle.std.proofs.Common.{◌≡◌, ℕ, suc, ◌-◌, ◌<◌, ◌≤◌, true, List, [], ◌∷◌, map, length, Option, Some, None, refl, ap, arith, Ordering, Less}
use Rattle.tree_split.proofs.Common.{ascents, reachable, sorted, boundary_of, all_above, larger_trans, Arrivals, IsAscending, IsSound, IsTotalOrder, boundary, cases_Bool, in_order, limit, nat_tests}
use Rattle.tree_array.proofs.Arrivals.{reachable_few}
use Rattle.tree_split.proofs.Boundaries.{ascents_fewer}

-- where the boundary says so, all neighbours ascend
all_rise : (len count rises : ℕ) → (boundary_of len count rises).2 ≡ true → rises ≡ len - 1
all_rise len count rises told = grind (arith, nat_tests)

module _ {K V : Type 0} where
  -- arrivals of which none is spent
  none_spent : (arrivals : List (Option (K × V))) → length arrivals ≤ length (reachable arrivals) → arrivals ≡ map Some (reachable arrivals)
  none_spent [] all = refl
  none_spent (None ∷ arrivals) all = absurd (omega (arith, all, reachable_few arrivals))
  none_spent (Some pair ∷ arrivals) all = ap (λ (rest : List (Option (K × V))). Some pair ∷ rest) (none_spent arrivals (omega (arith, all)))

module _ {K V : Type 0} {cmp : K → K → Ordering} (o : IsTotalOrder cmp) where
  -- pairs that ascend from each to the next
  all_ascend : (pairs : List (K × V)) → length pairs ≤ suc (ascents cmp pairs) → IsAscending cmp pairs
  all_ascend [] all = tt
  all_ascend (pair ∷ []) all = (tt, tt)
  all_ascend (pair ∷ next ∷ pairs) all =
      let few = ascents_fewer cmp (next ∷ pairs) (omega arith) in
      let less : cmp pair.0 next.0 ≡ Less = grind arith in
      let later = all_ascend (next ∷ pairs) (let rest = rw less at all in omega arith) in
      ((less, larger_trans o pair.0 next.0 pairs less later.0), later)

  -- are sorted
  sorted_already : (pairs : List (K × V)) → IsAscending cmp pairs → sorted cmp pairs ≡ pairs
  sorted_already [] ascends = refl
  sorted_already (pair ∷ pairs) ascends = let first = all_above o pair.0 pairs ascends.0 in rw (sorted_already pairs ascends.1, first.0, first.1) refl

  pub as_if_anew : (len : ℕ) (array : Arrivals K V) → IsSound cmp len array → limit len < length array.entries → (boundary cmp len array).2 ≡ true → array ≡ in_order array.entries
  as_if_anew len array sound many told = grind (arith, nat_tests, reachable_few, sorted_already, all_ascend, none_spent, all_rise, ascents_fewer, cases_Bool)
