-- Leaves that stand apart from a part: none of its leaves, nor beside one.
use Rattle.std.proofs.Common.{◌≡◌, ◌≢◌, ℕ, ◌≤◌, List, [], ◌∷◌, ◌++◌, Option, Some, None, IsSome, ◌∙◌, arith}
use Rattle.tree_node.proofs.Common.{IsChain, LeafOf, Slab, get, times, first_or, last_or, AreLinked, linked_right, neighbours, LeadsOutside, StandsApart}

module _ {K V : Type 0} {LEN : ℕ} where
  -- where a leaf outside these stays and is outside those, so is what leads to it
  module _ (a b : Slab (LeafOf K V LEN)) (xs ys : List ℕ) (stays : (m : ℕ) → IsSome (get a m) → times m xs ≡ 0 → IsSome (get b m) × (times m ys ≡ 0)) where
    leads_after : (link : Option ℕ) → LeadsOutside a xs link → LeadsOutside b ys link
    leads_after link out = grind arith

    pub apart_after : (n : ℕ) (leaf : LeafOf K V LEN) → get b n ≡ Some leaf → StandsApart a xs n leaf → StandsApart b ys n leaf
    apart_after n leaf here apart = grind arith

  -- fewer leaves are left to be apart from
  pub apart_from_fewer : (leaves : Slab (LeafOf K V LEN)) (xs ys : List ℕ) → ((m : ℕ) → times m xs ≡ 0 → times m ys ≡ 0) → (n : ℕ) (leaf : LeafOf K V LEN) → StandsApart leaves xs n leaf → StandsApart leaves ys n leaf
  apart_from_fewer leaves xs ys fewer n leaf apart = apart_after leaves leaves xs ys (λ m used out. (used, fewer m out)) n leaf apart.here apart

  module _ (leaves : Slab (LeafOf K V LEN)) (n : ℕ) (leaf : LeafOf K V LEN) (here : get leaves n ≡ Some leaf) where
    -- the last leaf before another one leads on to it
    leads_on : (before : Option ℕ) (front : List ℕ) (x : ℕ) (back : List ℕ) → AreLinked leaves before (front ++ x ∷ back) None → last_or None front ≡ Some n → leaf.next ≡ Some x
    leads_on before [] x back linked is = absurd (cc)
    leads_on before (y ∷ []) x back linked is = let same : y ≡ n = cc in (rw (same, here) at linked.0).1
    leads_on before (y ∷ (z ∷ front)) x back linked is = leads_on (Some y) (z ∷ front) x back linked.1 is

    -- and the first one behind it leads back
    leads_back : (x : ℕ) (back : List ℕ) → AreLinked leaves (Some x) back None → first_or back None ≡ Some n → leaf.prev ≡ Some x
    leads_back x back linked is = grind arith

    module _ (front : List ℕ) (x : ℕ) (back : List ℕ) (chain : IsChain leaves (front ++ x ∷ back)) (at_x : LeafOf K V LEN) (x_here : get leaves x ≡ Some at_x)
        (ids : List ℕ) (inside : 1 ≤ times x ids) (apart : StandsApart leaves ids n leaf) where
      -- so a leaf that stands apart is beside none of them in a chain
      pub not_before : at_x.prev ≢ Some n
      not_before is =
          let leads : leaf.next ≡ Some x = leads_on None front x back chain.linked ((neighbours leaves front x back chain at_x x_here).0 ∙ is) in
          let out = rw leads at apart.next in
          omega (arith, inside, out.1)

      pub not_behind : at_x.next ≢ Some n
      not_behind = grind (arith, linked_right, leads_back)
