-- The children of a node that stands or is retired, and the one that a key belongs to.
use Rattle.std.proofs.Common.{◌≡◌, ℕ, suc, [], map, Option, Some, None, IsSome, refl, append-nil, arith}
use Rattle.tree_node.proofs.Words.{IsTotalOrder, AllByRecursion, LeafOf, NodeOf, Ordering, TreeArenas, get, HasChildFor, Stands, StandsOrRetired, children_of, front_at, is_from, keyed, walk}
use Rattle.tree_node.proofs.Frames.{parted_all}
use Rattle.tree_node.proofs.Lists.{all_middle}
use Rattle.tree_node.proofs.Walks.{children_are}
use Rattle.tree_node.proofs.Widens.{stands_free}

-- a key belongs to one child
pub only_child : {K : Type 0} {LEN : ℕ} (cmp : K → K → Ordering) (key : K) (slot : Option (NodeOf K LEN)) (child other : ℕ) → HasChildFor cmp key slot child → HasChildFor cmp key slot other → child ≡ other
only_child cmp key slot child other this that = grind arith

-- each child of a node that stands does so by itself
pub all_stand : {K V : Type 0} {LEN : ℕ} (cmp : K → K → Ordering) (level : ℕ) (a : TreeArenas K V LEN)
    (low : Option K) (id : ℕ) (high : Option K) → Stands cmp (suc level) a low id high
    → AllByRecursion (λ child. Stands cmp level a None child None) (children_of a.nodes id)
all_stand cmp level a low id high s = rw (s.here, s.last_is) (parted_all cmp (Stands cmp level a) _ (stands_free cmp level a) low _ _ high s.parted)

-- so does the unbounded one
pub last_free : {K V : Type 0} {LEN : ℕ} (cmp : K → K → Ordering) (level : ℕ) (a : TreeArenas K V LEN)
    (low : Option K) (id : ℕ) (high : Option K) (s : Stands cmp (suc level) a low id high)
    → Stands cmp level a None s.last None
last_free cmp level a low id high s =
    let all = rw (s.here, s.last_is) at (all_stand cmp level a low id high s) in
    all_middle (λ x. Stands cmp level a None x None) (map (λ c. c.1) (keyed s.node).entries) s.last [] all

module _ {K V : Type 0} {LEN : ℕ} {cmp : K → K → Ordering} (o : IsTotalOrder cmp) (level : ℕ) (a : TreeArenas K V LEN) (id : ℕ) where
  -- and the one that a key belongs to
  pub child_stands : Stands cmp (suc level) a None id None → (k : K) (child : ℕ) → HasChildFor cmp k (get a.nodes id) child → Stands cmp level a None child None
  child_stands s k child routed =
      let all = rw (children_are o level a None id None s k child routed) at (all_stand cmp level a None id None s) in
      all_middle (λ x. Stands cmp level a None x None) (front_at (is_from cmp k) (keyed s.node).entries) child _ all

module _ {K V : Type 0} {LEN : ℕ} {cmp : K → K → Ordering} (level : ℕ) (a : TreeArenas K V LEN) (id : ℕ) where
  -- a node is there
  pub node_there : StandsOrRetired cmp (suc level) a id → IsSome (get a.nodes id)
  node_there given = grind arith

  -- a node with a child for a key is not retired
  pub stands_over : StandsOrRetired cmp (suc level) a id → (k : K) (child : ℕ) → HasChildFor cmp k (get a.nodes id) child → Stands cmp (suc level) a None id None
  stands_over given k child routed = grind arith

module _ {K V : Type 0} {LEN : ℕ} (a : TreeArenas K V LEN) (id : ℕ) where
  -- a leaf that stands is there, and its walk is its entries
  pub leaf_there : {cmp : K → K → Ordering} (low high : Option K) → Stands cmp 0 a low id high → IsSome (get a.leaves id)
  leaf_there low high s = rw s.here refl

  pub walk-leaf : (leaf : LeafOf K V LEN) → get a.leaves id ≡ Some leaf → walk 0 a id ≡ leaf.array.entries
  walk-leaf leaf here = rw (append-nil, here) refl
