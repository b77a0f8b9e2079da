-- A whole tree: what stands under its root is all that stands in the arenas. The level of its root is the tree's depth.
use Rattle.std.specs.Prelude.{◌≡◌, ◌≢◌, IsSome, ◌⊎◌, ℕ, ◌-◌, ◌<◌, ◌==◌, List, [], ◌∷◌, length, ⊤, Option, None, Some, Result, Ok, Err, if◌then◌else◌}
use Rattle.tree_leaf.specs.Arena.{HasPlaces}
use Rattle.tree_node.specs.declared.node.Root.{Root}
use Rattle.tree_node.specs.Arenas.{TreeArenas, Ordering, Slab, get, IsChain, times, uses, NodeOf}
use Rattle.tree_node.specs.Parts.{Unchanged}
use Rattle.tree_node.specs.Tree.{IsOfLevel, IsRetired, Stands, leaves_at, nodes_at, walk}
use Rattle.tree_node.specs.Shape.{least, leaf_spare}

-- the root with this number and level
abbrev pub root_at : ℕ → ℕ → Root
root_at id level = record { id = id; level = level }

-- how many levels of nodes there are, none without a root
abbrev pub depth_of : Option Root → ℕ
depth_of None = 0
depth_of (Some root) = root.level

-- the leaves, the nodes and the walk under a root, if there is one
module _ {K : Type 0} {LEN : ℕ} (nodes : Slab (NodeOf K LEN)) where
  abbrev pub leaves_under : Option Root → List ℕ
  leaves_under None = []
  leaves_under (Some root) = leaves_at root.level nodes root.id

  abbrev pub nodes_under : Option Root → List ℕ
  nodes_under None = []
  nodes_under (Some root) = nodes_at root.level nodes root.id

module _ {K V : Type 0} {LEN : ℕ} where
  abbrev pub walk_under : TreeArenas K V LEN → Option Root → List (K × V)
  walk_under arenas None = []
  walk_under arenas (Some root) = walk root.level arenas root.id

  -- how many writes are sure to go into each leaf of the tree without memory; 0 without a leaf
  abbrev pub spare_under : TreeArenas K V LEN → Option Root → ℕ
  spare_under arenas root =
      if length (leaves_under arenas.nodes root) == 0 then 0
      else least LEN (leaf_spare arenas.leaves) (leaves_under arenas.nodes root)

  -- a leaf node without a leaf is left as the root
  abbrev pub IsRetiredRoot : TreeArenas K V LEN → ℕ → ℕ → Type 0
  IsRetiredRoot arenas id level = (level ≡ 1) × IsRetired 1 arenas id × IsOfLevel 1 (get arenas.nodes id)

  -- a part stands under the root, or it is a retired leaf node
  abbrev pub IsTop : (K → K → Ordering) → TreeArenas K V LEN → Option Root → Type 0
  IsTop cmp arenas None = ⊤
  IsTop cmp arenas (Some root) = (0 < root.level) × (Stands cmp root.level arenas None root.id None ⊎ IsRetiredRoot arenas root.id root.level)

  pub record IsTree (cmp : K → K → Ordering) (arenas : TreeArenas K V LEN) (root : Option Root) : Type 0 where
    pub top : IsTop cmp arenas root
    -- each number in use is reached from the root once, and no other
    pub nodes_once : (n : ℕ) → times n (nodes_under arenas.nodes root) ≡ uses arenas.nodes n
    pub leaves_once : (n : ℕ) → times n (leaves_under arenas.nodes root) ≡ uses arenas.leaves n
    -- the leaves in the order of their keys are the whole chain of links
    pub chain : IsChain arenas.leaves (leaves_under arenas.nodes root)

-- No number is in use but that of this node.
pub record HasNoOther {K V : Type 0} {LEN : ℕ} (arenas : TreeArenas K V LEN) (id : ℕ) : Type 0 where
  pub here : IsSome (get arenas.nodes id)
  pub nodes : (n : ℕ) → n ≢ id → get arenas.nodes n ≡ None
  pub leaves : (n : ℕ) → get arenas.leaves n ≡ None

-- The tree has this pair alone, in a leaf with one slot used.
pub record HasOnly {K V : Type 0} {LEN : ℕ} (cmp : K → K → Ordering) (arenas : TreeArenas K V LEN) (id : ℕ) (key : K) (val : V) : Type 0 where
  pub tree : IsTree cmp arenas (Some (root_at id 1))
  pub pairs : walk 1 arenas id ≡ (key, val) ∷ []
  pub spare : spare_under arenas (Some (root_at id 1)) ≡ LEN - 1

-- the pair stands alone in a tree of one level; or it comes back, which it doesn't where a leaf and a node fit
abbrev pub Plants : {K V : Type 0} {LEN : ℕ} → (K → K → Ordering) → TreeArenas K V LEN → TreeArenas K V LEN → K → V → Result ℕ (K × V) → Type 0
Plants cmp old new key val (Ok id) = HasOnly cmp new id key val
Plants cmp old new key val (Err pair) = Unchanged old new × (pair.0 ≡ key) × (pair.1 ≡ val) × (HasPlaces old 1 1 → ⊥)
