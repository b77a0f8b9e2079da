-- A pair by its place: where it is found, and that an equal key leads there too.
use Rattle.tree_remove.proofs.Common.{Emptied, Equal, HasChildFor, HasOnlyRetired, IsAbsent, IsEntry, IsOnWay, IsRetired, IsSome, IsTotalOrder, LeadsTo, LeafOf, List, NodeOf, Option}
use Rattle.tree_remove.proofs.Common.{Ordering, RemoveResult, RemovesUnder, Retired, Some, TreeArenas, [], alike_right, arith, arrival, child_at, get, is_from, pair_at, refl}
use Rattle.tree_remove.proofs.Common.{stored_at, suc, surely, sym, tied_back, walk, walk-leaf, walk-retired, zero, ℕ, ◌-◌, ◌<◌, ◌∙◌, ◌∷◌, ◌≡◌}
use Rattle.tree_remove.proofs.Ways.{found_on_way, removes_on_way, settled_on_way}

-- either of two equal keys
module _ {K : Type 0} {cmp : K → K → Ordering} (o : IsTotalOrder cmp) (key alike : K) (same : cmp key alike ≡ Equal) where
  pub pair_alike : {V : Type 0} (pairs : List (K × V)) → pair_at cmp pairs key ≡ pair_at cmp pairs alike
  pair_alike [] = refl
  pair_alike (p ∷ ps) = rw (alike_right o key alike p.0 same, pair_alike ps) refl

  child_alike : (pairs : List (K × ℕ)) (last : ℕ) → child_at (is_from cmp key) pairs last ≡ child_at (is_from cmp alike) pairs last
  child_alike [] last = refl
  child_alike (c ∷ rest) last = rw (alike_right o key alike c.0 same, child_alike rest last) refl

  which_alike : {LEN : ℕ} (found : Option (NodeOf K LEN)) (id : ℕ) → HasChildFor cmp key found id → HasChildFor cmp alike found id
  which_alike found id h = grind (arith, child_alike)

  module _ {V : Type 0} {LEN : ℕ} (a : TreeArenas K V LEN) where
    way_alike : (steps id target : ℕ) → IsOnWay cmp key steps a id target → IsOnWay cmp alike steps a id target
    way_alike zero id target way = way
    way_alike (suc steps) id target way = (way.0, which_alike (get a.nodes id) way.0 way.1, way_alike steps way.0 target way.2)

    -- leads the same way
    pub leads_alike : (level id node leaf : ℕ) → LeadsTo cmp key level a id node leaf → LeadsTo cmp alike level a id node leaf
    leads_alike level id node leaf leads = (leads.0, way_alike (level - 1) id node leads.1, which_alike (get a.nodes node) leaf leads.2)

module _ {K V : Type 0} {LEN : ℕ} {cmp : K → K → Ordering} (o : IsTotalOrder cmp) (a : TreeArenas K V LEN) (key : K) (level : ℕ) (deep : 0 < level)
    (id : ℕ) where
  -- what is retired has no key
  pub absent_retired : IsRetired level a id → IsAbsent cmp (walk level a id) key
  absent_retired retired = rw (walk-retired level a id retired) refl

  module _ (node leaf : ℕ) (leads : LeadsTo cmp key level a id node leaf) where
    found_there : pair_at cmp (walk level a id) key ≡ pair_at cmp (walk 0 a leaf) key
    found_there = found_on_way o a key leaf level deep id node leads.0 leads.1 leads.2

    -- a key that its leaf doesn't have is absent
    pub absent_there : IsAbsent cmp (walk 0 a leaf) key → IsAbsent cmp (walk level a id) key
    absent_there none = found_there ∙ none

    -- and a pair that its leaf has is an entry
    pub entry_there : (slot : ℕ) (pair : K × V) → cmp pair.0 key ≡ Equal → stored_at (get a.leaves leaf) slot ≡ Some pair
        → pair_at cmp (walk 0 a leaf) key ≡ Some pair → IsEntry cmp level a id leaf slot pair
    entry_there slot pair same stored found =
        let way = leads_alike o key pair.0 (tied_back o pair.0 key same) a level id node leaf leads in
        grind (arith, stored, pair_alike o pair.0 key same, found_there, found, way)

-- the leaf of an entry is there
pub leaf_stored : {K V : Type 0} {LEN : ℕ} (found : Option (LeafOf K V LEN)) (slot : ℕ) (pair : K × V) → stored_at found slot ≡ Some pair → IsSome found
leaf_stored found slot pair h = grind arith

-- the pair of a slot is the one that its key has
pub slot_found : {K V : Type 0} {LEN : ℕ} (cmp : K → K → Ordering) (a : TreeArenas K V LEN) (id slot : ℕ) {leaf : LeafOf K V LEN} {pair taken : K × V}
    → get a.leaves id ≡ Some leaf → stored_at (get a.leaves id) slot ≡ Some pair → pair_at cmp (walk 0 a id) pair.0 ≡ Some pair
    → arrival leaf.array.arrivals slot ≡ Some taken → pair_at cmp leaf.array.entries taken.0 ≡ Some taken
slot_found cmp a id slot {leaf} {pair} {taken} here stored found there = grind (arith, walk-leaf)

-- an entry is taken out of its leaf
module _ {K V : Type 0} {LEN : ℕ} {cmp : K → K → Ordering} (o : IsTotalOrder cmp) {level : ℕ} {before : TreeArenas K V LEN} {id leaf slot : ℕ} {pair : K × V}
    (deep : 0 < level)
    (entry : IsEntry cmp level before id leaf slot pair) where
  pub found_in_leaf : pair_at cmp (walk 0 before leaf) pair.0 ≡ Some pair
  found_in_leaf = sym (found_on_way o before pair.0 leaf level deep id entry.node entry.way.0 entry.way.1 entry.way.2) ∙ entry.found

  module _ {now : TreeArenas K V LEN} {taken : K × V} {result : RemoveResult} (stored : stored_at (get before.leaves leaf) slot ≡ Some taken)
      (removes : RemovesUnder cmp surely 0 before now leaf result taken.0) where
    leads : LeadsTo cmp taken.0 level before id entry.node leaf
    leads = grind (arith, entry.stored, entry.way)

    -- it was the last one
    pub entry_emptied : result ≡ Retired → Emptied cmp level before now id taken.0
    entry_emptied is = record { node = entry.node; leaf = leaf; way = leads; removes = rw is at removes }

    -- it was not
    pub entry_stays : (result ≡ Retired → ⊥) → RemovesUnder cmp surely level before now id result taken.0
    entry_stays stays = removes_on_way o surely stays removes level deep id entry.node leads

    pub entry_settled : (IsRetired 0 now leaf → ⊥) → level ≡ 1 → HasOnlyRetired now id → ⊥
    entry_settled live one = settled_on_way o taken.0 before now level id entry.node leaf one leads removes.replaces live
