-- The last leaf under a node.
use Rattle.tree_insert.proofs.Common.{HasKind, HasLast, IsRetired, LeafOf, List, NodeOf, None, Option, Ordering, Some, Stands, TreeArenas, [], arith, get, inl, inr, length, refl, suc, sym}
use Rattle.tree_insert.proofs.Common.{unbounded, zero, ℕ, ◌-◌, ◌<◌, ◌∙◌, ◌∷◌, ◌≡◌}
use Rattle.tree_insert.proofs.AppendCommon.{EndsEdge, IsOnEdge, StandsOrRetired, found_entries, last_stands, subst}
use Rattle.tree_insert.proofs.Edges.{edge_below}
use Rattle.tree_node.proofs.Standing.{node_is}

module _ {K V : Type 0} {LEN : ℕ} (cmp : K → K → Ordering) (a : TreeArenas K V LEN) (level id : ℕ) where
  -- The way along the unbounded children has come to a number with so many levels of nodes below it. What ends the edge from there ends that of the part, and the part is retired if that node is.
  pub record Follows (at above : ℕ) : Type 0 where
    pub there : StandsOrRetired cmp (suc above) a at
    pub edge : (x : ℕ) → IsOnEdge above a.nodes at x → IsOnEdge (level - 1) a.nodes id x
    pub gone : IsRetired (suc above) a at → IsRetired level a id

  pub starts : 0 < level → StandsOrRetired cmp level a id → Follows id (level - 1)
  starts deep there =
      let up : suc (level - 1) ≡ level = omega (arith, deep) in
      record { there = subst (λ (n : ℕ). StandsOrRetired cmp n a id) (sym up) there; edge = λ x edge. edge; gone = λ retired. subst (λ (n : ℕ). IsRetired n a id) up retired }

module _ {K V : Type 0} {LEN : ℕ} {cmp : K → K → Ordering} {a : TreeArenas K V LEN} {level id at above : ℕ} {node : NodeOf K LEN}
    (follows : Follows cmp a level id at above) (here : get a.nodes at ≡ Some node) where
  -- a node without an unbounded child is retired
  pub stops : unbounded node ≡ None → IsRetired level a id
  stops none = elim follows.there [
    | inl s ↦ absurd (let some = rw (node_is above a None at None s node here) at s.last_is in cc)
    | inr retired ↦ follows.gone retired
  ]

  -- and so is one of another kind
  pub stops_at : (HasKind above node → ⊥) → IsRetired level a id
  stops_at other = elim follows.there [
    | inl s ↦ absurd (other (rw (node_is above a None at None s node here) at s.kind))
    | inr retired ↦ follows.gone retired
  ]

  module _ (child : ℕ) (is : unbounded node ≡ Some child) where
    ends : HasLast (get a.nodes at) child
    ends = rw here is

    stands : Stands cmp (suc above) a None at None
    stands = elim follows.there [ inl s ↦ s | inr retired ↦ absurd (let none = (rw here at retired).1 in cc) ]

    pub goes_down : 0 < above → Follows cmp a level id child (above - 1)
    goes_down more =
        let up : suc (above - 1) ≡ above = omega (arith, more) in
        let below = last_stands cmp (suc (above - 1)) a at child ends (subst (λ (n : ℕ). Stands cmp (suc n) a None at None) (sym up) stands) in
        record {
          there = inl below;
          edge = λ x edge. follows.edge x (subst (λ (n : ℕ). IsOnEdge n a.nodes at x) up (child, ends, edge));
          gone = λ retired. let none = (rw below.here at retired).1 in let both : Some below.last ≡ None = sym below.last_is ∙ none in absurd (cc);
        }

    pub arrives : above ≡ 0 → 0 < level → EndsEdge level a id at child
    arrives bottom deep =
        let edge : IsOnEdge (level - 1) a.nodes id at = follows.edge at (rw bottom refl) in
        let bound = last_stands cmp zero a at child ends (rw bottom at stands) in
        record { edge = edge; last = ends; below = edge_below a.nodes level deep id at child edge ends; there = rw bound.here refl }

some_of : {X : Type 0} (xs : List X) → (xs ≡ [] → ⊥) → 0 < length xs
some_of [] not = absurd (not refl)
some_of (x ∷ xs) not = omega arith

-- what a leaf has that isn't empty
pub some_found : {K V : Type 0} {LEN : ℕ} {slot : Option (LeafOf K V LEN)} {leaf : LeafOf K V LEN} → slot ≡ Some leaf → (leaf.array.entries ≡ [] → ⊥) → 0 < length (found_entries slot)
some_found {leaf = leaf} here not = rw here (some_of leaf.array.entries not)
