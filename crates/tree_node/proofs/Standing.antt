-- What stands under a number.
use Rattle.std.proofs.Common.{◌≡◌, ℕ, suc, ◌≤◌, List, [], length, Option, Some, IsSome, ◌∙◌, arith}
use Rattle.tree_node.proofs.Words.{Internal, Leaf, NodeOf, Ordering, Slab, TreeArenas, get, AreParted, HasKind, IsRetiredNode, NodeStands, Stands, keyed, node_children, unbounded, BranchOf}

-- the node that stands under a number is the one there
pub node_is : {K V : Type 0} {LEN : ℕ} {cmp : K → K → Ordering} (level : ℕ) (a : TreeArenas K V LEN) (low : Option K) (id : ℕ) (high : Option K) (s : Stands cmp (suc level) a low id high)
    (node : NodeOf K LEN) → get a.nodes id ≡ Some node → s.node ≡ node
node_is level a low id high s node was = cc s.here

-- a node that stays stands where its children do
pub node_kept : {K : Type 0} {LEN level : ℕ} {cmp : K → K → Ordering} {Old New : Option K → ℕ → Option K → Type 0} {a b : Slab (NodeOf K LEN)}
    {low low' : Option K} {id : ℕ} {high high' : Option K} (s : NodeStands cmp Old level a low id high) → get b id ≡ get a id
    → AreParted cmp New low' (keyed s.node).entries s.last high' → NodeStands cmp New level b low' id high'
node_kept s same parted = record { node = s.node; here = same ∙ s.here; kind = s.kind; last = s.last; last_is = s.last_is; few = s.few; parted = parted }

-- and one that is made of these children stands where they do
pub node_made : {K : Type 0} {LEN level : ℕ} {cmp : K → K → Ordering} {Child : Option K → ℕ → Option K → Type 0}
    {nodes : Slab (NodeOf K LEN)} {low high : Option K} {id last : ℕ}
    {node : NodeOf K LEN} {pairs : List (K × ℕ)} → get nodes id ≡ Some node → HasKind level node → unbounded node ≡ Some last → (keyed node).entries ≡ pairs
    → length pairs ≤ LEN → AreParted cmp Child low pairs last high → NodeStands cmp Child level nodes low id high
node_made here kind last_is are few parted = grind arith

-- a retired node has no child
pub no_children : {K : Type 0} {LEN : ℕ} (slot : Option (NodeOf K LEN)) → IsRetiredNode slot → IsSome slot × (node_children slot ≡ [])
no_children slot retired = (grind arith, grind arith)

-- nodes of one kind have it at the same levels
module _ {K : Type 0} {LEN : ℕ} where
  pub inner_kind : (a b : BranchOf K ℕ LEN) (level : ℕ) → HasKind level (Internal a) → HasKind level (Internal b)
  inner_kind a b level kind = grind arith

  pub outer_kind : (a b : BranchOf K ℕ LEN) (level : ℕ) → HasKind level (Leaf a) → HasKind level (Leaf b)
  outer_kind a b level kind = grind arith
