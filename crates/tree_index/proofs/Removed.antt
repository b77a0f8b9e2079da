-- What is removed where the condition says yes of every value, and what an absent key takes out.
use Rattle.std.proofs.Common.{◌≡◌, ◌↔◌, Bool, true, false, cond, IsTrue, List, [], ◌∷◌, ◌++◌, Option, Some, None, refl, sym, ap, ◌∙◌, Ordering, Less, Equal, Greater, is_lt, is_eq, is_gt}
use Rattle.tree_model.proofs.Common.{IsTotalOrder, IsAbsent, IsAscending, IsPresent, above, below, pair_at, without}
use Rattle.tree_array.proofs.Common.{less_from_greater}
use Rattle.tree_model.specs.Edits.{RemovesIf}
use Rattle.tree_model.proofs.Ascending.{all_above}
use Rattle.tree_model.proofs.LookUps.{larger_trans}

module _ {K V : Type 0} {cmp : K → K → Ordering} (o : IsTotalOrder cmp) where
  -- without an absent key a list is what it was
  pub without_unchanged : (l : List (K × V)) (k : K) → IsAscending cmp l → IsAbsent cmp l k → without cmp l k ≡ l
  without_unchanged [] k ascending absent = refl
  without_unchanged (p ∷ ps) k ascending absent = by_order (cmp p.0 k) refl (without_unchanged ps k ascending.1) absent
    where
      by_order : (c : Ordering) → cmp p.0 k ≡ c → (IsAbsent cmp ps k → without cmp ps k ≡ ps) → cond (is_eq c) (Some p) (pair_at cmp ps k) ≡ None
          → cond (is_lt c) (p ∷ below cmp ps k) (below cmp ps k) ++ cond (is_gt c) (p ∷ above cmp ps k) (above cmp ps k) ≡ p ∷ ps
      by_order Less is again none = ap (λ (r : List (K × V)). p ∷ r) (again none)
      by_order Equal is again none = absurd (cc)
      by_order Greater is again none =
          let rest = all_above o k ps (larger_trans o k p.0 ps (less_from_greater o p.0 k is) ascending.0) in
          rw (rest.0, rest.1) refl

  -- a condition that says yes of every value
  pub removes_surely : (Says : V → Bool → Type 0) (old : List (K × V)) (k : K) (removed : Bool) (new : List (K × V)) → IsAscending cmp old → RemovesIf cmp Says old k removed new → ((v : V) (said : Bool) → Says v said → said ≡ true)
      → (IsTrue removed ↔ IsPresent cmp old k) × (new ≡ without cmp old k)
  removes_surely Says old k true new ascending h sure = (((λ t. rw h.1 refl), (λ p. refl)), h.3)
  removes_surely Says old k false new ascending h sure = by_pair (pair_at cmp old k) refl
    where
      by_pair : (at_key : Option (K × V)) → pair_at cmp old k ≡ at_key → (IsTrue false ↔ IsPresent cmp old k) × (new ≡ without cmp old k)
      by_pair None none = (((λ t. absurd (cc)), (λ p. absurd (let both : IsPresent cmp old k = p in cc))), h.1 ∙ sym (without_unchanged old k ascending none))
      by_pair (Some pair) found = absurd (let yes : false ≡ true = sure pair.1 false (h.0 pair found) in cc)
