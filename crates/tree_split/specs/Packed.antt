-- A tree is packed if it is as full as can be along its right edge: the way from the root by unbounded children to the last leaf. Keys that arrive in ascending order leave it so.
use Rattle.std.specs.Prelude.{◌≡◌, ℕ, zero, suc, ◌<◌, ◌==◌, ◌^◌, leb, Bool, true, false, not, ◌&&◌, ◌||◌, List, [], ◌∷◌, length, Option, None, Some}
use Rattle.std.specs.Ordering.{is_eq}
use Rattle.tree_node.specs.Arenas.{AllByRecursion, Arrivals, LeafOf, Ordering, Slab, TreeArenas, get}
use Rattle.tree_node.specs.declared.node.NodeOf.{NodeOf}
use Rattle.tree_node.specs.Shape.{found_keyed}
use Rattle.tree_node.specs.Tree.{IsBelow, keyed, unbounded, walk}
use Rattle.tree_node.specs.declared.node.Root.{Root}

module _ {K : Type 0} (cmp : K → K → Ordering) where
  -- the arrivals have, in turn, the keys of the entries: so none is spent, and they ascend
  abbrev pub in_turn : {X : Type 0} → List (Option (K × X)) → List (K × X) → Bool
  in_turn [] [] = true
  in_turn [] (entry ∷ entries) = false
  in_turn (None ∷ arrivals) entries = false
  in_turn (Some pair ∷ arrivals) [] = false
  in_turn (Some pair ∷ arrivals) (entry ∷ entries) = is_eq (cmp pair.0 entry.0) && in_turn arrivals entries

  -- no slot of the array is spent, and its pairs came in ascending order
  abbrev pub is_packed_array : {X : Type 0} → Arrivals K X → Bool
  is_packed_array array = not array.retired && in_turn array.arrivals array.entries

-- What a part is along its right edge. Without a key: packed, but perhaps for a keyed child of the root. With a key: the same, but the last leaf may be empty, and the key is larger than all on the edge.
module _ {K : Type 0} (cmp : K → K → Ordering) where
  -- the last leaf isn't empty, or the key is larger than each of its keys
  abbrev pub EndsBelow : {V : Type 0} → Option K → List (K × V) → Type 0
  EndsBelow None pairs = 0 < length pairs
  EndsBelow (Some key) pairs = AllByRecursion (λ p. IsBelow cmp p.0 (Some key)) pairs

  module _ (beyond : Option K) where
    pub record IsPackedLeaf {V : Type 0} {LEN : ℕ} (leaves : Slab (LeafOf K V LEN)) (id : ℕ) : Type 0 where
      pub leaf : LeafOf K V LEN
      pub here : get leaves id ≡ Some leaf
      pub packed : is_packed_array cmp leaf.array ≡ true
      pub ends : EndsBelow beyond leaf.array.entries

    pub record IsPackedNode {LEN : ℕ} (Child : ℕ → Type 0) (size_of : ℕ → ℕ) (size : ℕ) (nodes : Slab (NodeOf K LEN)) (id : ℕ) : Type 0 where
      pub node : NodeOf K LEN
      pub here : get nodes id ≡ Some node
      pub packed : is_packed_array cmp (keyed node) ≡ true
      pub keys : AllByRecursion (λ c. IsBelow cmp c.0 beyond) (keyed node).entries
      -- each keyed child has as many pairs as it can have
      pub full : AllByRecursion (λ c. size_of c.1 ≡ size) (keyed node).entries
      pub last : ℕ
      pub last_is : unbounded node ≡ Some last
      pub edge : Child last

    abbrev pub IsPacked : {V : Type 0} {LEN : ℕ} → ℕ → TreeArenas K V LEN → ℕ → Type 0
    IsPacked zero arenas id = IsPackedLeaf arenas.leaves id
    IsPacked {LEN = LEN} (suc level) arenas id = IsPackedNode (IsPacked level arenas) (λ child. length (walk level arenas child)) (LEN ^ suc level) arenas.nodes id

-- this child is the last of the node, which no separator bounds
abbrev pub HasLast : {K : Type 0} {LEN : ℕ} → Option (NodeOf K LEN) → ℕ → Type 0
HasLast None child = ⊥
HasLast (Some node) child = unbounded node ≡ Some child

-- The same as a test.
abbrev pub all_full : {K : Type 0} → (ℕ → ℕ) → ℕ → List (K × ℕ) → Bool
all_full size_of size [] = true
all_full size_of size (c ∷ rest) = (size_of c.1 == size) && all_full size_of size rest

abbrev pub last_packed : (ℕ → Bool) → Option ℕ → Bool
last_packed child_packed None = false
last_packed child_packed (Some last) = child_packed last

module _ {K : Type 0} (cmp : K → K → Ordering) where
  abbrev pub leaf_packed : {V : Type 0} {LEN : ℕ} → Option (LeafOf K V LEN) → Bool
  leaf_packed None = false
  leaf_packed (Some leaf) = is_packed_array cmp leaf.array && not (length leaf.array.entries == 0)

  abbrev pub node_packed : {LEN : ℕ} → (ℕ → Bool) → (ℕ → ℕ) → ℕ → Option (NodeOf K LEN) → Bool
  node_packed child_packed size_of size None = false
  node_packed child_packed size_of size (Some node) =
      is_packed_array cmp (keyed node) && (all_full size_of size (keyed node).entries && last_packed child_packed (unbounded node))

  abbrev pub packed_at : {V : Type 0} {LEN : ℕ} → ℕ → TreeArenas K V LEN → ℕ → Bool
  packed_at zero arenas id = leaf_packed (get arenas.leaves id)
  packed_at {LEN = LEN} (suc level) arenas id = node_packed (packed_at level arenas) (λ child. length (walk level arenas child)) (LEN ^ suc level) (get arenas.nodes id)

  -- Whether a whole tree is packed: from depth 2 on its root has a keyed child too. A tree without a root is packed.
  abbrev pub packed_under : {V : Type 0} {LEN : ℕ} → TreeArenas K V LEN → Option Root → Bool
  packed_under arenas None = true
  packed_under arenas (Some root) = packed_at root.level arenas root.id && (leb root.level 1 || not (found_keyed (get arenas.nodes root.id) == 0))
