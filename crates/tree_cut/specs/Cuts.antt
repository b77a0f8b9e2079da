-- Parts that lose the keys within two bounds.
use Rattle.std.specs.Prelude.{◌≡◌, ◌≢◌, ℕ, zero, suc, ◌+◌, List, [], ◌∷◌, ◌++◌, Option, None, Some, length, take, drop, slice_get, ⊤}
use Rattle.std.specs.List.{flat_map, AllByRecursion}
use Rattle.std.specs.declared.cmp.Ordering.{Ordering}
use Rattle.std.specs.declared.ops.Bound.{Bound}
use Rattle.slab.specs.Slab.{get}
use Rattle.tree_model.specs.Pairs.{cut}
use Rattle.tree_node.specs.declared.node.NodeOf.{NodeOf}
use Rattle.tree_node.specs.Arenas.{TreeArenas}
use Rattle.tree_node.specs.Parts.{KeepsBounds, Replaces}
use Rattle.tree_node.specs.Tree.{children_of, keyed, walk}

-- the keyed children of what stands in a slot, by their separators
abbrev pub keyed_of : {K : Type 0} {LEN : ℕ} → Option (NodeOf K LEN) → List (K × ℕ)
keyed_of None = []
keyed_of (Some node) = (keyed node).entries

module _ {K V : Type 0} {LEN : ℕ} where
  abbrev pub HasPair : ℕ → TreeArenas K V LEN → ℕ → Type 0
  HasPair level arenas id = walk level arenas id ≢ []

  -- no keyed child under the number is empty, at any level
  abbrev pub HasNoEmpty : ℕ → TreeArenas K V LEN → ℕ → Type 0
  HasNoEmpty zero arenas id = ⊤
  HasNoEmpty (suc level) arenas id =
      AllByRecursion (λ c. HasPair level arenas c.1) (keyed_of (get arenas.nodes id)) × AllByRecursion (HasNoEmpty level arenas) (children_of arenas.nodes id)

  -- the same of a node but for what stands at a place among its children, which are of this level
  pub record HasNoEmptyBut (level : ℕ) (arenas : TreeArenas K V LEN) (id place : ℕ) : Type 0 where
    pub pairs : (n : ℕ) (c : K × ℕ) → slice_get (keyed_of (get arenas.nodes id)) n ≡ Some c → n ≢ place → HasPair level arenas c.1
    pub below : (n x : ℕ) → slice_get (children_of arenas.nodes id) n ≡ Some x → n ≢ place → HasNoEmpty level arenas x

module _ {K V : Type 0} {LEN : ℕ} (cmp : K → K → Ordering) where
  -- The part under a number has lost the keys within the bounds, which were so many, and nothing else. It stands between the bounds that it had.
  pub record CutsUnder (low high : Bound K) (level : ℕ) (old new : TreeArenas K V LEN) (id gone : ℕ) : Type 0 where
    pub pairs : walk level new id ≡ cut cmp (walk level old id) low high
    pub counted : gone + length (walk level new id) ≡ length (walk level old id)
    pub stands : KeepsBounds cmp level old new id
    pub replaces : Replaces level old new (id ∷ []) (id ∷ [])
    -- a keyed child that is left empty is gone
    pub no_empty : HasNoEmpty level old id → HasNoEmpty level new id

  -- One child of a node has lost the keys within the bounds, which were so many, and is gone itself if it was dropped. All else under the node is what it was.
  pub record CutsAt (low high : Bound K) (level below : ℕ) (old new : TreeArenas K V LEN) (id place gone : ℕ) : Type 0 where
    pub child : ℕ
    pub here : slice_get (children_of old.nodes id) place ≡ Some child
    pub counted : gone + length (cut cmp (walk below old child) low high) ≡ length (walk below old child)
    pub front : flat_map (walk below new) (take place (children_of new.nodes id)) ≡ flat_map (walk below old) (take place (children_of old.nodes id))
    pub back : flat_map (walk below new) (drop place (children_of new.nodes id))
        ≡ cut cmp (walk below old child) low high ++ flat_map (walk below old) (drop (suc place) (children_of old.nodes id))
    pub separators : take place (keyed_of (get new.nodes id)) ≡ take place (keyed_of (get old.nodes id))
    pub stands : KeepsBounds cmp level old new id
    pub replaces : Replaces level old new (id ∷ []) (id ∷ [])
