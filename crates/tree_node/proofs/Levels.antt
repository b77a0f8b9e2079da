-- What the kind of a node says of its level, what a retired one lacks, and that all children of another stand.
use Rattle.std.proofs.Common.{◌≡◌, ℕ, zero, suc, ◌<◌, [], Some, None, IsSome, inl, refl, arith, Ordering, ◌-◌, List, sub-one}
use Rattle.tree_node.proofs.Common.{HasKind, IsRetired, IsRetiredNode, NodeOf, Stands, StandsOrRetired, TreeArenas, child_of, get, keyed, node_is, node_there, unbounded, walk, AllByRecursion, BranchOf, Internal, Leaf, all_map, all_stand, in_turn, leaf_there, leaves_at, leaves_of}

module _ {K V : Type 0} {LEN : ℕ} (cmp : K → K → Ordering) (a : TreeArenas K V LEN) (id : ℕ) where
  -- a node that stands has the kind of its level
  pub kind_of : (level : ℕ) (node : NodeOf K LEN) → Stands cmp (suc level) a None id None → get a.nodes id ≡ Some node → HasKind level node
  kind_of level node s here = rw (node_is level a None id None s node here) at s.kind

  pub node_at : (level : ℕ) → 0 < level → StandsOrRetired cmp level a id → IsSome (get a.nodes id)
  node_at zero inner given = absurd (omega (arith, inner))
  node_at (suc level) inner given = node_there level a id given

  -- it is retired where it has no child
  pub retired_at : (level : ℕ) → 0 < level → (node : NodeOf K LEN) → get a.nodes id ≡ Some node → (IsRetiredNode (Some node) → IsRetired level a id) × (IsRetired level a id → IsRetiredNode (Some node))
  retired_at level inner node here = grind arith

  -- what stands isn't retired
  pub stands_not_retired : (level : ℕ) → 0 < level → Stands cmp level a None id None → IsRetired level a id → ⊥
  stands_not_retired level inner s retired = grind arith

  -- and has a child for each key
  pub childless : (level : ℕ) → 0 < level → StandsOrRetired cmp level a id → (k : K) (node : NodeOf K LEN) → get a.nodes id ≡ Some node → child_of cmp k (keyed node).entries (unbounded node) ≡ None → IsRetired level a id
  childless level inner given k node here none = grind arith

  -- all children of a node stand
  module _ (level : ℕ) (node : NodeOf K LEN) (here : get a.nodes id ≡ Some node) where
    pub children_stand : Stands cmp (suc level) a None id None → (last : ℕ) → unbounded node ≡ Some last → AllByRecursion (λ child. Stands cmp level a None child None) (in_turn (keyed node).entries (Some last))
    children_stand s last last_is = rw (here, last_is) at (all_stand cmp level a None id None s)

  -- at any level above 0: a node without an unbounded child is retired
  pub no_leaves : (level : ℕ) → 0 < level → StandsOrRetired cmp level a id → (node : NodeOf K LEN) → get a.nodes id ≡ Some node → unbounded node ≡ None → leaves_at level a.nodes id ≡ []
  no_leaves level inner given node here none = grind arith

  -- and one that isn't retired stands
  pub stands_unless : (level : ℕ) → 0 < level → StandsOrRetired cmp level a id → (node : NodeOf K LEN) → get a.nodes id ≡ Some node → (IsRetiredNode (Some node) → ⊥) → Stands cmp level a None id None
  stands_unless level inner given node here not = grind arith

  -- so does one with an unbounded child
  stands_over_last : (level : ℕ) → 0 < level → StandsOrRetired cmp level a id → (node : NodeOf K LEN) → get a.nodes id ≡ Some node
      → (last : ℕ) → unbounded node ≡ Some last → Stands cmp level a None id None
  stands_over_last level inner given node here last last_is = stands_unless level inner given node here (λ retired. cc (retired.1, last_is))

  -- a node over leaves
  pub record OverLeaves (level : ℕ) (pairs : List (K × ℕ)) (last : ℕ) : Type 0 where
    pub leaves : leaves_at level a.nodes id ≡ leaves_of 0 a.nodes (in_turn pairs (Some last))
    pub there : AllByRecursion (λ child. IsSome (get a.leaves child)) (in_turn pairs (Some last))

  pub over_leaves : (level : ℕ) → 0 < level → StandsOrRetired cmp level a id → (node : BranchOf K ℕ LEN) → get a.nodes id ≡ Some (Leaf node) → (last : ℕ) → node.unbounded_child ≡ Some last
      → OverLeaves level node.children.entries last
  over_leaves (suc zero) inner given node here last last_is =
      let all = children_stand 0 (Leaf node) here (stands_over_last 1 inner given (Leaf node) here last last_is) last last_is in
      record { leaves = rw (here, last_is) refl; there = all_map (λ child t. leaf_there a child None None t) _ all }
  over_leaves level inner given node here last last_is = absurd (let s = stands_over_last level inner given (Leaf node) here last last_is in grind arith)

  -- and one over nodes
  pub record OverNodes (level : ℕ) (pairs : List (K × ℕ)) (last : ℕ) : Type 0 where
    pub inner : 0 < level - 1
    pub leaves : leaves_at level a.nodes id ≡ leaves_of (level - 1) a.nodes (in_turn pairs (Some last))
    pub stand : AllByRecursion (λ child. StandsOrRetired cmp (level - 1) a child) (in_turn pairs (Some last))

  pub over_nodes : (level : ℕ) → 0 < level → StandsOrRetired cmp level a id → (node : BranchOf K ℕ LEN) → get a.nodes id ≡ Some (Internal node) → (last : ℕ) → node.unbounded_child ≡ Some last
      → OverNodes level node.children.entries last
  over_nodes (suc (suc level)) inner given node here last last_is =
      let all = children_stand (suc level) (Internal node) here (stands_over_last _ inner given (Internal node) here last last_is) last last_is in
      record { inner = omega arith; leaves = rw (sub-one, here, last_is) refl; stand = rw sub-one (all_map (λ child t. inl t) _ all) }
  over_nodes level inner given node here last last_is = absurd (let s = stands_over_last level inner given (Internal node) here last last_is in grind arith)

-- what is retired has no pair
pub retired_walk : {K V : Type 0} {LEN : ℕ} (a : TreeArenas K V LEN) (id : ℕ) (level : ℕ) → 0 < level → IsRetired level a id → walk level a id ≡ []
retired_walk a id level inner retired = grind arith
