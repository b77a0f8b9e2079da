-- The child that a key belongs to is that of the least separator from the key on.
use Rattle.std.proofs.Common.{◌≡◌, ℕ, List, [], ◌∷◌, ◌++◌, Option, Some, None, MatchOption, refl, arith, Ordering, Greater}
use Rattle.tree_node.proofs.Common.{Arrivals, IsAscending, IsTotalOrder, all_behind, child_of, arrival, greater_from_less, least_from, less_from_greater}
use Rattle.tree_node.specs.Routing.{IsSlotFor}

module _ {K X : Type 0} (cmp : K → K → Ordering) (k : K) where
  -- the child of the least separator from the key on, and the unbounded one where there is none
  pub routed_to : (pairs : List (K × X)) (last : X) (pair : K × X) → least_from cmp pairs k ≡ Some pair → child_of cmp k pairs (Some last) ≡ Some pair.1
  routed_to [] last pair h = absurd (cc)
  routed_to (c ∷ rest) last pair h = grind (arith, routed_to rest last pair)

  pub routed_past : (pairs : List (K × X)) (last : X) → least_from cmp pairs k ≡ None → child_of cmp k pairs (Some last) ≡ Some last
  routed_past [] last h = refl
  routed_past (c ∷ rest) last h = grind (arith, routed_past rest last)

  -- the child that was read from where the search of the separators ended
  pub routed_at : (children : Arrivals K X) (last child : X) (slot : Option ℕ)
      → IsSlotFor cmp k children slot → MatchOption slot (child ≡ last) (λ s. (separator : K) × (arrival children.arrivals s ≡ Some (separator, child))) → child_of cmp k children.entries (Some last) ≡ Some child
  routed_at children last child slot past is = grind (arith, routed_to, routed_past)

-- a key is larger than each of ascending separators exactly where it is larger than the last
module _ {K X : Type 0} {cmp : K → K → Ordering} (o : IsTotalOrder cmp) (key : K) where
  pub beyond_last : (front : List (K × X)) (last : K × X) → IsAscending cmp (front ++ last ∷ []) → cmp key last.0 ≡ Greater → least_from cmp (front ++ last ∷ []) key ≡ None
  beyond_last [] last ascending h = rw (less_from_greater o key last.0 h) refl
  beyond_last (c ∷ front) last ascending h =
      rw (o.trans c.0 last.0 key (all_behind _ front (last ∷ []) ascending.0).0 (less_from_greater o key last.0 h)) (beyond_last front last ascending.1 h)

  pub last_exceeded : (front : List (K × X)) (last : K × X) → least_from cmp (front ++ last ∷ []) key ≡ None → cmp key last.0 ≡ Greater
  last_exceeded [] last h = grind (arith, greater_from_less o last.0 key)
  last_exceeded (c ∷ front) last h = grind (arith, last_exceeded front last)
