-- Whether pairs ascend, from each two neighbours.
use Rattle.std.proofs.Common.{◌≡◌, ◌<◌, ◌-◌, List, [], ◌∷◌, length, take, drop, slice_index_or, false, arith, is_ge, Ordering, Less, length-drop, take_all}
use Rattle.tree_model.proofs.Common.{IsTotalOrder, IsAscending}
use Rattle.tree_model.proofs.LookUps.{larger_trans}
use Rattle.tree_node.proofs.Order.{less_from_no_ge}

module _ {K V : Type 0} {cmp : K → K → Ordering} (o : IsTotalOrder cmp) where
  -- fewer than two pairs do
  pub few_ascend : (l : List (K × V)) → length l < 2 → IsAscending cmp l
  few_ascend [] few = tt
  few_ascend (pair ∷ []) few = (tt, tt)
  few_ascend (pair ∷ next ∷ pairs) few = absurd (omega (arith, few))

  -- a pair goes before pairs that ascend, if its key is smaller than that of the first
  front_ascends : (l : List (K × V)) (d e : K × V) → 1 < length l → is_ge (cmp (slice_index_or l 0 d).0 (slice_index_or l 1 e).0) ≡ false → (IsAscending cmp (drop 1 l) → IsAscending cmp l) × (IsAscending cmp l → IsAscending cmp (drop 1 l))
  front_ascends [] d e more less = absurd (omega (arith, more))
  front_ascends (x ∷ []) d e more less = absurd (omega (arith, more))
  front_ascends (x ∷ y ∷ rest) d e more less =
      let smaller : cmp x.0 y.0 ≡ Less = less_from_no_ge (cmp x.0 y.0) less in
      ((λ ascending. ((smaller, larger_trans o x.0 y.0 rest smaller ascending.0), ascending)), (λ ascending. ascending.1))

  pub one_more_ascends : (l : List (K × V)) (d e pair next : K × V) → 1 < length l → pair ≡ slice_index_or l 0 d → next ≡ slice_index_or l 1 e → is_ge (cmp pair.0 next.0) ≡ false
      → let others = take (length l - 1) (drop 1 l) in (IsAscending cmp others → IsAscending cmp l) × (IsAscending cmp l → IsAscending cmp others)
  one_more_ascends l d e pair next more is also less =
      let all = take_all (length l - 1) (drop 1 l) (rw length-drop (omega arith)) in
      let told = rw (is, also) at less in
      rw all (front_ascends l d e more told)
