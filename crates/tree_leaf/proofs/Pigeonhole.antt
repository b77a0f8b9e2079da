-- Numbers in use, each at most once, are no more than an arena counts.
use Rattle.tree_leaf.proofs.Common.{◌≡◌, ℕ, ◌≤◌, List, [], ◌∷◌, length, Option, None, IsSome, is_some, cond, refl, arith, sum_by-set, Slab, get, slab_len, times, uses, ContainsKey-within}
use Rattle.slab.proofs.SlabLemmas.{Updates-set}
use Rattle.std.proofs.Math.ListN.{set}
use Rattle.tree_leaf.proofs.Counts.{times-cons, one_here, none_here, in_use, uses_le_one, uses_same, uses_none}

module _ {T : Type 0} where
  -- a number that is taken out of the list frees its slot, and the others are as they were
  pub once_fits : (arena : Slab T) (xs : List ℕ) → ((n : ℕ) → times n xs ≤ uses arena n) → length xs ≤ slab_len arena
  once_fits arena [] once = omega arith
  once_fits arena (x ∷ xs) once =
      let used : IsSome (get arena x) = in_use arena x (omega (arith, once x, times-cons x x xs, one_here x x refl)) in
      let within = ContainsKey-within arena x used in
      let freed : Slab T = record arena { slots = set arena.slots x None } in
      let updates = Updates-set arena freed x None within refl in
      let counted = sum_by-set (λ (slot : Option T). cond (is_some slot) 1 0) arena.slots x None None within in
      let was : cond {A = ℕ} (is_some (get arena x)) 1 0 ≡ 1 = rw used refl in
      let rest = once_fits freed xs (λ n. grind (arith, once n, times-cons n x xs, one_here n x, none_here n x, uses_le_one arena n, updates.others n, updates.changed, uses_none freed x, uses_same arena freed n)) in
      omega (arith, counted, was, rest)
