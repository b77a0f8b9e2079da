-- The leaves under a node are those under its children, each of which stands one level below it.
use Rattle.tree_parts.proofs.Common.{◌≡◌, ℕ, zero, suc, ◌-◌, ◌<◌, List, [], Option, Some, None, inl, inr, refl, arith, Ordering, AllByRecursion, reverse-reverse, along, ContainsKey}
use Rattle.tree_parts.proofs.Common.{IsRetiredNode, StandsOrRetired, TreeArenas, Way, all_along, all_children, all_map, get, keyed, leaves_at, leaves_of, no_leaves, over_leaves, over_nodes}
use Rattle.tree_parts.proofs.Common.{unbounded, BranchOf, NodeOf, Internal, Leaf}

module _ {K V : Type 0} {LEN : ℕ} (level : ℕ) (a : TreeArenas K V LEN) where
  -- a child of a node over nodes is no leaf, and stands or is retired
  abbrev pub StandsBelow : (K → K → Ordering) → ℕ → Type 0
  StandsBelow cmp child = (0 < level - 1) × StandsOrRetired cmp (level - 1) a child

  -- the leaves under the number are those under these children on a way, for each of which this holds
  pub record IsOver (id below : ℕ) (Holds : ℕ → Type 0) (way : Way) (children : List ℕ) : Type 0 where
    pub leaves : leaves_at level a.nodes id ≡ leaves_of below a.nodes (along way children)
    pub each : AllByRecursion Holds children

  -- in the order of the keys or against it
  turned : (id below : ℕ) (Holds : ℕ → Type 0) (way : Way) (children left : List ℕ) → left ≡ along way children → leaves_at level a.nodes id ≡ leaves_of below a.nodes children → AllByRecursion Holds children
      → IsOver id below Holds way left
  turned id below Holds way children left is leaves each = record { leaves = rw is (grind (arith, reverse-reverse, leaves)); each = rw is (all_along Holds way children each) }

module _ {K V : Type 0} {LEN : ℕ} (cmp : K → K → Ordering) (a : TreeArenas K V LEN) (id level : ℕ) (inner : 0 < level) (given : StandsOrRetired cmp level a id) (way : Way) (children : List ℕ) where
  no_keyed : (level : ℕ) → 0 < level → StandsOrRetired cmp level a id → (node : NodeOf K LEN) → get a.nodes id ≡ Some node → unbounded node ≡ None → (keyed node).entries ≡ []
  no_keyed zero inner given node here none = absurd (omega (arith, inner))
  no_keyed (suc level) inner (inl s) node here none = grind (arith, s.here, s.last_is)
  no_keyed (suc level) inner (inr retired) node here none = let r : IsRetiredNode (Some node) = rw here at retired in r.0

  -- those of a node with an unbounded child stand, and one without has none
  over : (below : ℕ) (Holds : ℕ → Type 0) (node : NodeOf K LEN) → get a.nodes id ≡ Some node → children ≡ along way (all_children (keyed node) (unbounded node))
      → ((last : ℕ) → unbounded node ≡ Some last → (leaves_at level a.nodes id ≡ leaves_of below a.nodes
      (all_children (keyed node) (Some last))) × AllByRecursion Holds (all_children (keyed node) (Some last)))
      → IsOver level a id below Holds way children
  over below Holds node here is stand = by_last (unbounded node) refl is
    where
      by_last : (last : Option ℕ) → unbounded node ≡ last → children ≡ along way (all_children (keyed node) last) → IsOver level a id below Holds way children
      by_last None none is =
          let empty : all_children (keyed node) None ≡ [] = rw (no_keyed level inner given node here none) refl in
          turned level a id below Holds way [] children (rw empty at is) (no_leaves cmp a id level inner given node here none) tt
      by_last (Some last) last_is is = turned level a id below Holds way _ children is (stand last last_is).0 (stand last last_is).1

  pub leaf_node_over : (node : BranchOf K ℕ LEN) → get a.nodes id ≡ Some (Leaf node) → children ≡ along way (all_children node.children node.unbounded_child) → IsOver level a id 0 (ContainsKey a.leaves) way children
  leaf_node_over node here is = over 0 (ContainsKey a.leaves) (Leaf node) here is
      (λ last last_is. let there = over_leaves cmp a id level inner given node here last last_is in (there.leaves, there.there))

  pub node_over : (node : BranchOf K ℕ LEN) → get a.nodes id ≡ Some (Internal node) → children ≡ along way (all_children node.children node.unbounded_child) → IsOver level a id (level - 1) (StandsBelow level a cmp) way children
  node_over node here is =
      over (level - 1) (StandsBelow level a cmp) (Internal node) here is (λ last last_is.
      let there = over_nodes cmp a id level inner given node here last last_is in (there.leaves, all_map (λ child t. (there.inner, t)) _ there.stand))
