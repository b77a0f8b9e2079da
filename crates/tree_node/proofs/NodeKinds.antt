-- What the kind of a node says of its level, and what stands at a level that a program counts.
use Rattle.std.proofs.Common.{◌≡◌, ◌⊎◌, ℕ, zero, suc, ◌<◌, None, Some, IsSome, refl, arith, Ordering}
use Rattle.tree_node.proofs.Common.{BranchOf, HasChildFor, Internal, IsPart, IsRetired, IsRetiredNode, IsTotalOrder, Leaf, NodeOf, Stands, TreeArenas, child_at, children_of, get, head_here, is_from, keyed, times, times-append}
use Rattle.tree_node.proofs.ChildChanges.{back, was}
use Rattle.tree_node.proofs.Levels.{node_at, retired_at, stands_not_retired}

module _ {K V : Type 0} {LEN : ℕ} {cmp : K → K → Ordering} where
  -- a node over nodes is above the first level
  pub inner_level : (level : ℕ) → 0 < level → (a : TreeArenas K V LEN) (id : ℕ) → IsPart cmp level a id → (node : BranchOf K ℕ LEN) → get a.nodes id ≡ Some (Internal node) → 1 < level
  inner_level level deep a id part node here = let s = part.stands in grind arith

  -- and one over leaves is at it
  pub outer_level : (level : ℕ) → 0 < level → (a : TreeArenas K V LEN) (id : ℕ) → IsPart cmp level a id → (node : BranchOf K ℕ LEN) → get a.nodes id ≡ Some (Leaf node) → level ≡ 1
  outer_level level deep a id part node here = let s = part.stands in grind arith

  -- a node that stands has a child for each key
  pub some_child : (level : ℕ) → 0 < level → (a : TreeArenas K V LEN) (id : ℕ) → IsPart cmp level a id → (key : K) → (child : ℕ) × HasChildFor cmp key (get a.nodes id) child
  some_child zero deep a id part key = absurd (omega (arith, deep))
  some_child (suc level) deep a id part key = (child_at (is_from cmp key) (keyed part.stands.node).entries part.stands.last, rw (part.stands.here, part.stands.last_is) refl)

  -- which is one of its children
  pub child_inside : IsTotalOrder cmp → (level : ℕ) → 0 < level → (a : TreeArenas K V LEN) (id child : ℕ) (key : K) → IsPart cmp level a id → HasChildFor cmp key (get a.nodes id) child → 0 < times child (children_of a.nodes id)
  child_inside o zero deep a id child key part which = absurd (omega (arith, deep))
  child_inside o (suc level) deep a id child key part which =
      let s : Stands cmp (suc level) a None id None = part.stands in
      let behind = back o level a id child key part which None None s in
      rw (was o level a id child key part which None None s, times-append child) (omega (arith, head_here child behind))

  -- a node is there
  pub node_used : (level : ℕ) → 0 < level → (a : TreeArenas K V LEN) (id : ℕ) → IsPart cmp level a id ⊎ IsRetired level a id → IsSome (get a.nodes id)
  node_used level deep a id given = grind (arith, node_at)

  -- a part that stands isn't retired
  pub not_retired : (level : ℕ) → 0 < level → (a : TreeArenas K V LEN) (id : ℕ) → IsPart cmp level a id → (node : NodeOf K LEN) → get a.nodes id ≡ Some node → IsRetiredNode (Some node) → ⊥
  not_retired level deep a id part node here retired = stands_not_retired cmp a id level deep part.stands ((retired_at cmp a id level deep node here).0 retired)

pub retired_node : {K V : Type 0} {LEN : ℕ} (level : ℕ) → 0 < level → (a : TreeArenas K V LEN) (id : ℕ) → IsRetired level a id
    → (node : NodeOf K LEN) → get a.nodes id ≡ Some node → IsRetiredNode (Some node)
retired_node level deep a id retired node here = (grind arith, grind arith)
