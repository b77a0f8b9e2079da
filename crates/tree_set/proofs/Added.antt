-- Elements that are added one after another, and elements that ascend.
use Rattle.std.proofs.Common.{◌≡◌, ℕ, ◌+◌, ◌<◌, zero, suc, add-one, List, [], ◌∷◌, ◌++◌, length, slice_index_or, Bool, true, false, Ok, Err, Result, if◌then◌else◌, refl, sym, ap, ◌∙◌, arith, is_lt, Ordering, Less}
use Rattle.tree_model.proofs.Common.{IsTotalOrder, AllByRecursion}
use Rattle.std.proofs.lemmas.List.Sums.{fold_push}
use Rattle.std.specs.List.{AllAdjacentBelow, IsAllAdjacentAnswer}
use Rattle.std.specs.Prelude.{◌↔◌, IsTrue}
use Rattle.tree_set.specs.Collects.{added, added_each}
use Rattle.tree_set.specs.Sets.{Inserts, IsAscending}
use Rattle.tree_set.proofs.Merged.{larger_all}

module _ {K : Type 0} (cmp : K → K → Ordering) where
  -- what an insert leaves is the set with the element added
  pub adds : (old : List K) (k : K) (is_new : Bool) (new : List K) → Inserts cmp old k (Ok is_new) new → new ≡ added cmp old k
  adds old k true new told = told.1 ∙ rw told.0 refl
  adds old k false new told = told.1 ∙ rw told.0 refl

  pub added_push : (l elements : List K) (k : K) → added_each cmp l (elements ++ k ∷ []) ≡ added cmp (added_each cmp l elements) k
  added_push l elements k = fold_push (λ list x. added cmp list x) l elements k

-- whether elements ascend, from each two neighbours
module _ {K : Type 0} {cmp : K → K → Ordering} (o : IsTotalOrder cmp) where
  less_from_test : (c : Ordering) → true ≡ is_lt c → c ≡ Less
  less_from_test c h = grind arith

  tail_adjacent : (x : K) (xs : List K) → AllAdjacentBelow (λ a b. true ≡ is_lt (cmp a b)) (x ∷ xs) (suc (length xs)) → AllAdjacentBelow (λ a b. true ≡ is_lt (cmp a b)) xs (length xs)
  tail_adjacent x xs all = λ k d less. simp add-one (simp add-one at (all (suc k) d (omega (arith, less))))

  pub adjacent_ascend : (xs : List K) → AllAdjacentBelow (λ a b. true ≡ is_lt (cmp a b)) xs (length xs) → IsAscending cmp xs
  adjacent_ascend [] all = tt
  adjacent_ascend (x ∷ []) all = (tt, tt)
  adjacent_ascend (x ∷ y ∷ ys) all =
      let rest = adjacent_ascend (y ∷ ys) (tail_adjacent x (y ∷ ys) all) in
      let less : cmp x y ≡ Less = less_from_test (cmp x y) (all 0 x (omega arith)) in
      ((less, larger_all o x y ys less rest.0), rest)

  pub ascend_adjacent : (xs : List K) → IsAscending cmp xs → (k : ℕ) (d : K) → k + 1 < length xs → is_lt (cmp (slice_index_or xs k d) (slice_index_or xs (k + 1) d)) ≡ true
  ascend_adjacent [] h k d less = absurd (omega (arith, less))
  ascend_adjacent (x ∷ []) h k d less = absurd (omega (arith, less))
  ascend_adjacent (x ∷ y ∷ ys) h zero d less = rw h.0.0 refl
  ascend_adjacent (x ∷ y ∷ ys) h (suc k) d less = simp add-one (simp add-one at (ascend_adjacent (y ∷ ys) h.1 k d (omega (arith, less))))

  pub tells_ascending : (xs : List K) (told : Bool) → IsAllAdjacentAnswer (λ a b c. c ≡ is_lt (cmp a b)) xs told → IsTrue told ↔ IsAscending cmp xs
  tells_ascending xs true all = ((λ yes. adjacent_ascend xs all), (λ ascending. refl))
  tells_ascending [] false some = absurd (omega (arith, some.1))
  tells_ascending (x ∷ xs) false some =
      ((λ yes. absurd (cc)), (λ ascending. let no = some.2 x ∙ ascend_adjacent (x ∷ xs) ascending some.0 x some.1 in absurd (cc)))
