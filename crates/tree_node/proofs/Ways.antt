-- The way down to the leaf that a key belongs to: from the node where it starts, and on from each node that it comes to.
use Rattle.std.proofs.Common.{◌≡◌, ◌⊎◌, ℕ, zero, suc, ◌-◌, ◌<◌, None, Some, IsSome, arith, sub-one, Ordering}
use Rattle.tree_node.proofs.DescentWords.{IsTotalOrder, get, TreeArenas, IsPart, HasChildFor, HasKind, IsOfLevel, IsRetired, Stands, StandsOrRetired, child_of, keyed, unbounded, BranchOf, Internal, Leaf, IsOnWay, child_stands, childless, node_at, stands_not_retired}
use Rattle.tree_node.specs.declared.node.NodeOf.{NodeOf}
use Rattle.tree_node.proofs.ChildChanges.{child_part}

-- a node over leaves isn't above others, nor one over nodes at the bottom
pub not_leaf : {K : Type 0} {LEN : ℕ} (above : ℕ) (node : BranchOf K ℕ LEN) → 0 < above → HasKind above (Leaf node) → ⊥
not_leaf above node more kind = grind arith

pub not_internal : {K : Type 0} {LEN : ℕ} (above : ℕ) (node : BranchOf K ℕ LEN) → above ≡ 0 → HasKind above (Internal node) → ⊥
not_internal above node none kind = grind arith

module _ {K V : Type 0} {LEN : ℕ} (cmp : K → K → Ordering) (a : TreeArenas K V LEN) (key : K) where
  -- the way of the key leads from a part to this leaf, under this leaf node
  pub record Reaches (level id node leaf : ℕ) : Type 0 where
    pub stands : Stands cmp level a None id None
    pub way : IsOnWay cmp key (level - 1) a id node
    pub which : HasChildFor cmp key (get a.nodes node) leaf

  -- the way has come down from a number to another one, and what it reaches from there it reaches from here
  pub record IsDown (level id above at : ℕ) : Type 0 where
    pub inner : 0 < above
    pub stands : StandsOrRetired cmp above a at
    pub back : IsRetired above a at → IsRetired level a id
    pub on : (node leaf : ℕ) → Reaches above at node leaf → Reaches level id node leaf

  pub starts : (level id : ℕ) → 0 < level → StandsOrRetired cmp level a id → IsDown level id level id
  starts level id inner stands = record { inner = inner; stands = stands; back = λ retired. retired; on = λ node leaf it. it }

module _ {K V : Type 0} {LEN : ℕ} {cmp : K → K → Ordering} (o : IsTotalOrder cmp) (a : TreeArenas K V LEN) (key : K) where
  pub below_part : (level : ℕ) → 0 < level → (id child : ℕ) → IsPart cmp level a id → HasChildFor cmp key (get a.nodes id) child → IsPart cmp (level - 1) a child
  below_part level deep id child part which = grind (arith, sub-one, child_part)

  -- a part isn't retired
  pub part_not_retired : (level : ℕ) → 0 < level → (id : ℕ) → IsPart cmp level a id → IsRetired level a id → ⊥
  part_not_retired level deep id part = stands_not_retired cmp a id level deep part.stands

  -- the node that the way leads to is a part
  pub part_on_way : (steps : ℕ) (id target : ℕ) → IsPart cmp (suc steps) a id → IsOnWay cmp key steps a id target → IsPart cmp 1 a target
  part_on_way zero id target part way = rw way at part
  part_on_way (suc steps) id target part way = part_on_way steps way.0 target (child_part o (suc steps) a id way.0 key part way.1 None None part.stands) way.2

  -- what is asked of a call is what the way begins with, and where it reaches a leaf the part is whole
  pub given : (level id : ℕ) → IsPart cmp level a id ⊎ IsRetired level a id → StandsOrRetired cmp level a id
  given level id asked = grind arith

  pub whole : (level id : ℕ) → 0 < level → IsPart cmp level a id ⊎ IsRetired level a id → Stands cmp level a None id None → IsPart cmp level a id
  whole level id inner asked stands = grind arith

  passed : (level id child : ℕ) → 0 < level → Stands cmp (suc level) a None id None → HasChildFor cmp key (get a.nodes id) child
      → (node leaf : ℕ) → Reaches cmp a key level child node leaf → Reaches cmp a key (suc level) id node leaf
  passed level id child inner s which node leaf it = grind (arith, sub-one)

module _ {K V : Type 0} {LEN : ℕ} {cmp : K → K → Ordering} (o : IsTotalOrder cmp) {a : TreeArenas K V LEN} {key : K} {level id above at : ℕ} (down : IsDown cmp a key level id above at) where
  pub is_there : IsSome (get a.nodes at)
  is_there = node_at cmp a at above down.inner down.stands

  -- where no child is, or the node is of another kind, the way didn't start
  module _ (node : NodeOf K LEN) (here : get a.nodes at ≡ Some node) where
    pub stops : child_of cmp key (keyed node).entries (unbounded node) ≡ None → IsRetired level a id
    stops none = down.back (childless cmp a at above down.inner down.stands key node here none)

    pub stops_at : (IsOfLevel above (Some node) → ⊥) → IsRetired level a id
    stops_at other = grind arith

  module _ (node : BranchOf K ℕ LEN) (child : ℕ) (chosen : child_of cmp key node.children.entries node.unbounded_child ≡ Some child) where
    -- one step down from a node over nodes
    pub goes_down : get a.nodes at ≡ Some (Internal node) → (next : ℕ) → suc next ≡ above → IsDown cmp a key level id next child
    goes_down here next is =
        let passes = passed o a key next at child in
        let stands = λ (s : Stands cmp (suc next) a None at None). child_stands o next a at s key child in
        grind (arith, stands_not_retired, passes, stands)

    -- a node over leaves is the last one
    pub arrives : get a.nodes at ≡ Some (Leaf node) → Reaches cmp a key level id at child
    arrives here = down.on at child (grind (arith, sub-one))
