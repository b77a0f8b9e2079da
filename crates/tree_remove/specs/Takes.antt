-- A pair by its place, and what a removal leaves that took the last pair of a leaf.
use Rattle.std.specs.Prelude.{◌≡◌, ℕ, Option, None, Some}
use Rattle.tree_clean_up.specs.CleanUps.{HasOnlyRetired}
use Rattle.tree_node.specs.Ways.{LeadsTo}
use Rattle.tree_remove.specs.Removes.{LeafOf, Ordering, RemoveResult, RemovesUnder, Retired, Success, TreeArenas}
use Rattle.tree_remove.specs.Removes.{arrival, get, pair_at, surely, walk}

-- the pair in a slot of a leaf
abbrev pub stored_at : {K V : Type 0} {LEN : ℕ} → Option (LeafOf K V LEN) → ℕ → Option (K × V)
stored_at None slot = None
stored_at (Some leaf) slot = arrival leaf.array.arrivals slot

module _ {K V : Type 0} {LEN : ℕ} (cmp : K → K → Ordering) (level : ℕ) where
  -- the pair under a number is stored in this slot of this leaf, to which its key leads
  pub record IsEntry (arenas : TreeArenas K V LEN) (id leaf slot : ℕ) (pair : K × V) : Type 0 where
    pub stored : stored_at (get arenas.leaves leaf) slot ≡ Some pair
    pub found : pair_at cmp (walk level arenas id) pair.0 ≡ Some pair
    pub node : ℕ
    pub way : LeadsTo cmp pair.0 level arenas id node leaf

  -- the leaf of the key lost its last pair, the key's, and nothing else has changed yet
  pub record Emptied (before now : TreeArenas K V LEN) (id : ℕ) (key : K) : Type 0 where
    pub node : ℕ
    pub leaf : ℕ
    pub way : LeadsTo cmp key level before id node leaf
    pub removes : RemovesUnder cmp surely 0 before now leaf Retired key

  -- that leaf is gone, and each node without a child; a leaf node isn't left with a retired leaf alone
  pub record DropsEmptied (before new : TreeArenas K V LEN) (id : ℕ) (result : RemoveResult) (key : K) : Type 0 where
    pub removes : RemovesUnder cmp surely level before new id result key
    pub settled : level ≡ 1 → result ≡ Success → HasOnlyRetired new id → ⊥
