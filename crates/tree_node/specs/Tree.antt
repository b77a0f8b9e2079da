-- What stands in the arenas under a number, at a level. Level 0 is a leaf, and the children of a node stand one level below it.
use Rattle.std.specs.Prelude.{◌≡◌, ℕ, zero, suc, ◌≤◌, length, true, Bool, List, [], ◌∷◌, ◌++◌, ⊤, ◌⊎◌, map, Option, Some, None, if◌then◌else◌}
use Rattle.std.specs.List.{flat_map}
use Rattle.std.specs.Ordering.{is_le, is_ge}
use Rattle.tree_model.specs.Pairs.{IsAscending}
use Rattle.tree_node.specs.Arenas.{AllByRecursion, Arrivals, Internal, Leaf, LeafOf, Less, NodeOf, Ordering, Slab, TreeArenas, get, leaf_entries}

-- the keyed children in order, then the unbounded one
abbrev pub in_turn : {K : Type 0} → List (K × ℕ) → Option ℕ → List ℕ
in_turn pairs None = map (λ c. c.1) pairs
in_turn pairs (Some last) = map (λ c. c.1) pairs ++ last ∷ []

module _ {K : Type 0} {LEN : ℕ} where
  -- the keyed children of a node, by their separators, and its unbounded one
  abbrev pub keyed : NodeOf K LEN → Arrivals K ℕ
  keyed (Internal node) = node.children
  keyed (Leaf node) = node.children

  abbrev pub unbounded : NodeOf K LEN → Option ℕ
  unbounded (Internal node) = node.unbounded_child
  unbounded (Leaf node) = node.unbounded_child

  abbrev pub node_children : Option (NodeOf K LEN) → List ℕ
  node_children None = []
  node_children (Some node) = in_turn (keyed node).entries (unbounded node)

  -- the children of the node under a number
  abbrev pub children_of : Slab (NodeOf K LEN) → ℕ → List ℕ
  children_of nodes id = node_children (get nodes id)

  -- the leaves under a number of this level, in the order of their keys
  abbrev pub leaves_at : ℕ → Slab (NodeOf K LEN) → ℕ → List ℕ
  leaves_at zero nodes id = id ∷ []
  leaves_at (suc level) nodes id = flat_map (leaves_at level nodes) (children_of nodes id)

  -- the nodes under a number of this level, itself among them
  abbrev pub nodes_at : ℕ → Slab (NodeOf K LEN) → ℕ → List ℕ
  nodes_at zero nodes id = []
  nodes_at (suc level) nodes id = id ∷ flat_map (nodes_at level nodes) (children_of nodes id)

  -- the same under several numbers of one level
  abbrev pub leaves_of : ℕ → Slab (NodeOf K LEN) → List ℕ → List ℕ
  leaves_of level nodes ids = flat_map (leaves_at level nodes) ids

  abbrev pub nodes_of : ℕ → Slab (NodeOf K LEN) → List ℕ → List ℕ
  nodes_of level nodes ids = flat_map (nodes_at level nodes) ids

  -- a node is of the kind `Leaf` exactly where its children stand at level 0
  abbrev pub HasKind : ℕ → NodeOf K LEN → Type 0
  HasKind zero (Internal node) = ⊥
  HasKind zero (Leaf node) = ⊤
  HasKind (suc level) (Internal node) = ⊤
  HasKind (suc level) (Leaf node) = ⊥

-- a node of the kind of this level
abbrev pub IsOfLevel : {K : Type 0} {LEN : ℕ} → ℕ → Option (NodeOf K LEN) → Type 0
IsOfLevel zero found = ⊤
IsOfLevel (suc level) None = ⊥
IsOfLevel (suc level) (Some node) = HasKind level node

module _ {K V : Type 0} {LEN : ℕ} where
  -- the walk of what stands under a number of this level: the entries of its leaves in turn
  abbrev pub walk : ℕ → TreeArenas K V LEN → ℕ → List (K × V)
  walk level arenas id = flat_map (leaf_entries arenas.leaves) (leaves_at level arenas.nodes id)

-- one child of a node: the first keyed one that passes a test, else the unbounded one
module _ {K X : Type 0} (test : K → Bool) where
  abbrev pub child_at : List (K × X) → X → X
  child_at [] last = last
  child_at (c ∷ rest) last = if test c.0 then c.1 else child_at rest last

  -- the children before it, and those after it
  abbrev pub front_at : List (K × X) → List X
  front_at [] = []
  front_at (c ∷ rest) = if test c.0 then [] else c.1 ∷ front_at rest

  abbrev pub back_at : List (K × X) → X → List X
  back_at [] last = []
  back_at (c ∷ rest) last = if test c.0 then map (λ d. d.1) rest ++ last ∷ [] else back_at rest last

module _ {K : Type 0} (cmp : K → K → Ordering) where
  -- k is above the bound, if there is one
  abbrev pub IsAbove : Option K → K → Type 0
  IsAbove None k = ⊤
  IsAbove (Some low) k = cmp low k ≡ Less

  -- k is at most the bound, if there is one
  abbrev pub IsUpTo : K → Option K → Type 0
  IsUpTo k None = ⊤
  IsUpTo k (Some high) = is_le (cmp k high) ≡ true

  -- k is below the bound, if there is one
  abbrev pub IsBelow : K → Option K → Type 0
  IsBelow k None = ⊤
  IsBelow k (Some high) = cmp k high ≡ Less

  -- a separator that the key doesn't exceed
  abbrev pub is_from : K → K → Bool
  is_from k separator = is_ge (cmp separator k)

  -- the child whose part the key belongs to: that of the first such separator, else the unbounded one
  abbrev pub child_of : {X : Type 0} → K → List (K × X) → Option X → Option X
  child_of k pairs None = None
  child_of k pairs (Some last) = Some (child_at (is_from k) pairs last)

  -- the node has this child for the key
  abbrev pub HasChildFor : {LEN : ℕ} → K → Option (NodeOf K LEN) → ℕ → Type 0
  HasChildFor k None id = ⊥
  HasChildFor k (Some node) id = child_of k (keyed node).entries (unbounded node) ≡ Some id

  -- each keyed child is between the separator before and its own, and the last child above them all
  abbrev pub AreParted : (Option K → ℕ → Option K → Type 0) → Option K → List (K × ℕ) → ℕ → Option K → Type 0
  AreParted Child low [] last high = Child low last high
  AreParted Child low (c ∷ rest) last high =
      Child low c.1 (Some c.0) × IsAbove low c.0 × IsBelow c.0 high × AreParted Child (Some c.0) rest last high

  -- a node with at most `LEN` keyed children stands under this number, and they are parted by its separators
  pub record NodeStands {LEN : ℕ} (Child : Option K → ℕ → Option K → Type 0) (level : ℕ) (nodes : Slab (NodeOf K LEN)) (low : Option K) (id : ℕ) (high : Option K) : Type 0 where
    pub node : NodeOf K LEN
    pub here : get nodes id ≡ Some node
    pub kind : HasKind level node
    pub last : ℕ
    pub last_is : unbounded node ≡ Some last
    pub few : length (keyed node).entries ≤ LEN
    pub parted : AreParted Child low (keyed node).entries last high

  -- a leaf with at most `LEN` ascending keys above `low` and up to `high` stands under this number
  pub record LeafStands {V : Type 0} {LEN : ℕ} (leaves : Slab (LeafOf K V LEN)) (low : Option K) (id : ℕ) (high : Option K) : Type 0 where
    pub leaf : LeafOf K V LEN
    pub here : get leaves id ≡ Some leaf
    pub few : length leaf.array.entries ≤ LEN
    pub ascending : IsAscending cmp leaf.array.entries
    pub above : AllByRecursion (λ p. IsAbove low p.0) leaf.array.entries
    pub up_to : AllByRecursion (λ p. IsUpTo p.0 high) leaf.array.entries

  -- what stands under a number at a level, with keys above `low` and up to `high`
  abbrev pub Stands : {V : Type 0} {LEN : ℕ} → ℕ → TreeArenas K V LEN → Option K → ℕ → Option K → Type 0
  Stands zero arenas low id high = LeafStands arenas.leaves low id high
  Stands (suc level) arenas low id high = NodeStands (Stands level arenas) level arenas.nodes low id high

-- what is left of a part that lost all its entries: a retired leaf, or a node with no child
abbrev pub IsRetiredLeaf : {K V : Type 0} {LEN : ℕ} → Option (LeafOf K V LEN) → Type 0
IsRetiredLeaf None = ⊥
IsRetiredLeaf (Some leaf) = (leaf.array.retired ≡ true) × (leaf.array.entries ≡ [])

abbrev pub IsRetiredNode : {K : Type 0} {LEN : ℕ} → Option (NodeOf K LEN) → Type 0
IsRetiredNode None = ⊥
IsRetiredNode (Some node) = ((keyed node).entries ≡ []) × (unbounded node ≡ None)

module _ {K V : Type 0} {LEN : ℕ} where
  abbrev pub IsRetired : ℕ → TreeArenas K V LEN → ℕ → Type 0
  IsRetired zero arenas id = IsRetiredLeaf (get arenas.leaves id)
  IsRetired (suc level) arenas id = IsRetiredNode (get arenas.nodes id)

  -- what a call on a number asks: a part stands there, or what is left of one
  abbrev pub StandsOrRetired : (K → K → Ordering) → ℕ → TreeArenas K V LEN → ℕ → Type 0
  StandsOrRetired cmp level arenas id = Stands cmp level arenas None id None ⊎ IsRetired level arenas id
