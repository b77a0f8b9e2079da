-- Parts of a tree in arenas, and how a call changes one. A part is what stands under some numbers of one level.
use Rattle.std.specs.Prelude.{◌≡◌, ℕ, ◌+◌, ◌≤◌, List, ◌++◌, length, Option, None, Some, IsSome, ⊤}
use Rattle.tree_node.specs.Arenas.{IsChain, LeafOf, NodeOf, Ordering, SameArray, Slab, TreeArenas, get, stored, times, uses}
use Rattle.tree_node.specs.Tree.{HasKind, keyed, unbounded, leaves_at, nodes_at, leaves_of, nodes_of, Stands}

module _ {K V : Type 0} {LEN : ℕ} where
  -- the link leads to a leaf that is none of these, if it leads to one
  abbrev pub LeadsOutside : Slab (LeafOf K V LEN) → List ℕ → Option ℕ → Type 0
  LeadsOutside leaves ids None = ⊤
  LeadsOutside leaves ids (Some n) = IsSome (get leaves n) × (times n ids ≡ 0)

  -- the leaf is none of these, nor beside one
  pub record StandsApart (leaves : Slab (LeafOf K V LEN)) (ids : List ℕ) (n : ℕ) (leaf : LeafOf K V LEN) : Type 0 where
    pub here : get leaves n ≡ Some leaf
    pub outside : times n ids ≡ 0
    pub prev : LeadsOutside leaves ids leaf.prev
    pub next : LeadsOutside leaves ids leaf.next

  -- The part under the numbers `ids` has become the part under `ids'`, and nothing else has changed but the links of the two leaves beside it.
  pub record Replaces (level : ℕ) (old new : TreeArenas K V LEN) (ids ids' : List ℕ) : Type 0 where
    -- what stands outside the part stays
    pub nodes_kept : (n : ℕ) → IsSome (get old.nodes n) → times n (nodes_of level old.nodes ids) ≡ 0 → get new.nodes n ≡ get old.nodes n
    pub leaves_kept : (n : ℕ) → IsSome (get old.leaves n) → times n (leaves_of level old.nodes ids) ≡ 0 → SameArray (get old.leaves n) (get new.leaves n)
    pub links_kept : (n : ℕ) (leaf : LeafOf K V LEN) → StandsApart old.leaves (leaves_of level old.nodes ids) n leaf → get new.leaves n ≡ Some leaf
    -- a number is taken where the part gains it, and freed where the part loses it
    pub nodes_counted : (n : ℕ) → uses new.nodes n + times n (nodes_of level old.nodes ids) ≡ uses old.nodes n + times n (nodes_of level new.nodes ids')
    pub leaves_counted : (n : ℕ) → uses new.leaves n + times n (leaves_of level old.nodes ids) ≡ uses old.leaves n + times n (leaves_of level new.nodes ids')
    -- a chain of links that ran through the part runs through it
    pub chained : (front back : List ℕ) → IsChain old.leaves (front ++ (leaves_of level old.nodes ids ++ back)) → IsChain new.leaves (front ++ (leaves_of level new.nodes ids' ++ back))

  -- what stands under every number is what it was
  pub record Unchanged (old new : TreeArenas K V LEN) : Type 0 where
    pub leaves : (n : ℕ) → get new.leaves n ≡ get old.leaves n
    pub nodes : (n : ℕ) → get new.nodes n ≡ get old.nodes n

module _ {K V : Type 0} {LEN : ℕ} (cmp : K → K → Ordering) where
  -- a well-formed part of a tree stands under the number, in which each number is reached once, and a chain of links runs through its leaves
  pub record IsPart (level : ℕ) (arenas : TreeArenas K V LEN) (id : ℕ) : Type 0 where
    pub stands : Stands cmp level arenas None id None
    pub nodes_once : (n : ℕ) → times n (nodes_at level arenas.nodes id) ≤ uses arenas.nodes n
    pub front : List ℕ
    pub back : List ℕ
    pub chain : IsChain arenas.leaves (front ++ (leaves_at level arenas.nodes id ++ back))

  -- the part keeps each pair of bounds that it had
  abbrev pub KeepsBounds : ℕ → TreeArenas K V LEN → TreeArenas K V LEN → ℕ → Type 0
  KeepsBounds level old new id = (low high : Option K) → Stands cmp level old low id high → Stands cmp level new low id high

-- A node has got a keyed child, and has no more than fit.
pub record PutsChild {K : Type 0} {LEN : ℕ} (cmp : K → K → Ordering) (old new : NodeOf K LEN) (separator : K) (id : ℕ) : Type 0 where
  pub put : keyed new ≡ stored cmp (keyed old) separator id
  pub few : length (keyed new).entries ≤ LEN
  pub last : unbounded new ≡ unbounded old
  pub kind : (level : ℕ) → HasKind level old → HasKind level new
