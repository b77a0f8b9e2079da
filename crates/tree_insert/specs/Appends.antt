-- The last leaf of a part of a tree, and what an append to it leaves.
use Rattle.std.specs.Prelude.{◌≡◌, ℕ, zero, suc, ◌-◌, ◌<◌, ◌⊎◌, Bool, true, false, List, [], ◌∷◌, ◌++◌, length, IsSome, Result, Ok, Err}
use Rattle.std.specs.Option.{ForSome}
use Rattle.tree_array.specs.declared.answers.StoreResult.TheVariants.{New}
use Rattle.tree_array.specs.Insertion.{IsFull}
use Rattle.tree_insert.specs.Inserts.{InsertsUnder}
use Rattle.tree_node.specs.Arenas.{AllByRecursion, Less, Ordering, Slab, TreeArenas, get, leaf_entries}
use Rattle.tree_node.specs.declared.node.NodeOf.{NodeOf}
use Rattle.tree_node.specs.Parts.{IsPart}
use Rattle.tree_node.specs.Tree.{IsRetired, walk}
use Rattle.tree_split.specs.Packed.{HasLast}

-- so many steps down, each to the unbounded child, lead from one number to another
abbrev pub IsOnEdge : {K : Type 0} {LEN : ℕ} → ℕ → Slab (NodeOf K LEN) → ℕ → ℕ → Type 0
IsOnEdge zero nodes id target = id ≡ target
IsOnEdge (suc level) nodes id target = (child : ℕ) × HasLast (get nodes id) child × IsOnEdge level nodes child target

module _ {K V : Type 0} {LEN : ℕ} where
  -- the edge from a number ends at this node, the last one on it, and at this leaf, its last child
  pub record EndsEdge (level : ℕ) (arenas : TreeArenas K V LEN) (id node leaf : ℕ) : Type 0 where
    pub edge : IsOnEdge (level - 1) arenas.nodes id node
    pub last : HasLast (get arenas.nodes node) leaf
    pub below : IsOnEdge level arenas.nodes id leaf
    pub there : IsSome (get arenas.leaves leaf)

  -- this is the last leaf under the number, and it has a pair
  abbrev pub IsLastLeaf : ℕ → TreeArenas K V LEN → ℕ → ℕ → Type 0
  IsLastLeaf level arenas id leaf = IsOnEdge level arenas.nodes id leaf × (0 < length (leaf_entries arenas.leaves leaf))

  -- there is no such leaf: the node is retired, or its last leaf has no pair
  abbrev pub HasNoLastLeaf : ℕ → TreeArenas K V LEN → ℕ → Type 0
  HasNoLastLeaf level arenas id = IsRetired level arenas id ⊎ ((leaf : ℕ) × IsOnEdge level arenas.nodes id leaf × (leaf_entries arenas.leaves leaf ≡ []))

  module _ (cmp : K → K → Ordering) (level : ℕ) where
    -- it is the last one under a node, and the key is larger than all there
    pub record IsLastFor (arenas : TreeArenas K V LEN) (id leaf : ℕ) (key : K) : Type 0 where
      pub deep : 0 < level
      pub part : IsPart cmp level arenas id
      pub last : IsLastLeaf level arenas id leaf
      pub beyond : AllByRecursion (λ p. cmp p.0 key ≡ Less) (walk level arenas id)

    -- the pair stands behind all others, as an insert leaves it, and the leaf is the last one still
    pub record AppendsUnder (old new : TreeArenas K V LEN) (id leaf : ℕ) (key : K) (val : V) : Type 0 where
      pub inserts : InsertsUnder cmp true level old new id (Ok New) key val
      pub pairs : walk level new id ≡ walk level old id ++ (key, val) ∷ []
      pub last : IsLastLeaf level new id leaf

    -- or it comes back, nothing has changed, and the leaf has no free slot
    abbrev pub Appends : TreeArenas K V LEN → TreeArenas K V LEN → ℕ → ℕ → K → V → Result (Unit {0}) (K × V) → Type 0
    Appends old new id leaf key val (Ok _) = AppendsUnder old new id leaf key val
    Appends old new id leaf key val (Err pair) = (new ≡ old) × (pair.0 ≡ key) × (pair.1 ≡ val) × ForSome (get old.leaves leaf) (λ found. IsFull LEN found.array)

    -- these pairs stand behind all others, as appends of one after another leave them
    abbrev pub AppendsEach : TreeArenas K V LEN → TreeArenas K V LEN → ℕ → ℕ → List (K × V) → Type 0
    AppendsEach old new id leaf [] = ⊥
    AppendsEach old new id leaf (pair ∷ []) = AppendsUnder old new id leaf pair.0 pair.1
    AppendsEach old new id leaf (pair ∷ (next ∷ rest)) = (mid : TreeArenas K V LEN) × AppendsUnder old mid id leaf pair.0 pair.1 × AppendsEach mid new id leaf (next ∷ rest)

    -- so do those of a run, which has none left; or nothing has changed
    abbrev pub AppendsRun : TreeArenas K V LEN → TreeArenas K V LEN → ℕ → List (K × V) → List (K × V) → Bool → Type 0
    AppendsRun old new id run left true = (leaf : ℕ) × IsLastLeaf level old id leaf × AppendsEach old new id leaf run × (left ≡ [])
    AppendsRun old new id run left false = (new ≡ old) × (left ≡ run)
