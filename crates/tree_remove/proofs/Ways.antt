-- A removal in the leaf that a key belongs to, seen from the node where its way starts.
use Rattle.tree_remove.proofs.Common.{Bool, Fail, HasChildFor, HasOnlyRetired, IsOnWay, IsPart, IsRetired, IsSome, IsTotalOrder, LeadsTo, None, Ordering, RemoveResult, RemovesUnder}
use Rattle.tree_remove.proofs.Common.{Replaces, Retired, Stands, TreeArenas, [], arith, child_part, found_in_child, get, keyed, leaf_there, length, pair_at, replaces_refl, same_node, sub-one, suc}
use Rattle.tree_remove.proofs.Common.{walk, walk-leaf, walk-retired, without_present, zero, ℕ, ◌-◌, ◌<◌, ◌∙◌, ◌∷◌, ◌≡◌}
use Rattle.tree_clean_up.proofs.EmptyNodes.{only_unbounded}
use Rattle.tree_node.proofs.Ways.{part_on_way}
use Rattle.tree_remove.proofs.NodeRemovals.{stays_above}

module _ {K V : Type 0} {LEN : ℕ} {cmp : K → K → Ordering} (o : IsTotalOrder cmp) (a : TreeArenas K V LEN) (key : K) (leaf : ℕ) where
  -- the leaf has the pair that the part has
  pub found_on_way : (level : ℕ) → 0 < level → (id node : ℕ) → IsPart cmp level a id → IsOnWay cmp key (level - 1) a id node
      → HasChildFor cmp key (get a.nodes node) leaf → pair_at cmp (walk level a id) key ≡ pair_at cmp (walk 0 a leaf) key
  found_on_way zero deep id node part way which = absurd (omega (arith, deep))
  found_on_way (suc zero) deep id node part way which = found_in_child o 0 a None id None part.stands key leaf (rw way which)
  found_on_way (suc (suc steps)) deep id node part way which =
      let on : IsOnWay cmp key (suc steps) a id node = rw sub-one at way in
      found_in_child o (suc steps) a None id None part.stands key on.0 on.1
      ∙ found_on_way (suc steps) (omega arith) on.0 node (child_part o (suc steps) a id on.0 key part on.1 None None part.stands) (rw sub-one on.2) which

  -- and is a part
  pub leaf_on_way : (level : ℕ) → 0 < level → (id node : ℕ) → IsPart cmp level a id → IsOnWay cmp key (level - 1) a id node
      → HasChildFor cmp key (get a.nodes node) leaf → IsPart cmp 0 a leaf
  leaf_on_way zero deep id node part way which = absurd (omega (arith, deep))
  leaf_on_way (suc level) deep id node part way which =
      let over = part_on_way o a key level id node part (rw sub-one at way) in
      child_part o 0 a node leaf key over which None None over.stands

-- the leaf that a way leads to is a part, which is there, and has the pair that the part has
pub record IsLedTo {K V : Type 0} {LEN : ℕ} (cmp : K → K → Ordering) (key : K) (level : ℕ) (a : TreeArenas K V LEN) (id leaf : ℕ) : Type 0 where
  pub part : IsPart cmp 0 a leaf
  pub there : IsSome (get a.leaves leaf)
  pub found : pair_at cmp (walk level a id) key ≡ pair_at cmp (walk 0 a leaf) key

pub led_to : {K V : Type 0} {LEN : ℕ} {cmp : K → K → Ordering} (o : IsTotalOrder cmp) (key : K) (level : ℕ) → 0 < level
    → (a : TreeArenas K V LEN) (id node leaf : ℕ) → LeadsTo cmp key level a id node leaf → IsLedTo cmp key level a id leaf
led_to o key level deep a id node leaf way =
    let part = leaf_on_way o a key leaf level deep id node way.0 way.1 way.2 in
    record { part = part; there = leaf_there a leaf None None part.stands; found = found_on_way o a key leaf level deep id node way.0 way.1 way.2 }

-- a leaf of two pairs or more has one left
pub not_emptied : {K V : Type 0} {LEN : ℕ} {cmp : K → K → Ordering} (o : IsTotalOrder cmp) {Says : V → Bool → Type 0}
    {old new : TreeArenas K V LEN} {key : K} {leaf : ℕ} → IsPart cmp 0 old leaf → 1 < length (walk 0 old leaf)
    → RemovesUnder cmp Says 0 old new leaf Retired key → ⊥
not_emptied o part many removes =
    grind (arith, part.stands, walk-leaf, without_present, removes.pairs.0.was, removes.pairs.0.left, removes.pairs.1)

module _ {K V : Type 0} {LEN : ℕ} {cmp : K → K → Ordering} (o : IsTotalOrder cmp) (Says : V → Bool → Type 0) {old new : TreeArenas K V LEN} {key : K}
    {leaf : ℕ} {result : RemoveResult}
    (stays : result ≡ Retired → ⊥) (removes : RemovesUnder cmp Says 0 old new leaf result key) where
  -- a removal that leaves the leaf a pair is one under the node
  pub removes_on_way : (level : ℕ) → 0 < level → (id node : ℕ) → LeadsTo cmp key level old id node leaf → RemovesUnder cmp Says level old new id result key
  removes_on_way zero deep id node leads = absurd (omega (arith, deep))
  removes_on_way (suc zero) deep id node leads = stays_above o Says leaf key leads.0 (rw leads.1 leads.2) result stays removes
  removes_on_way (suc (suc steps)) deep id node leads =
      let on : IsOnWay cmp key (suc steps) old id node = rw sub-one at leads.1 in
      let below = child_part o (suc steps) old id on.0 key leads.0 on.1 None None leads.0.stands in
      stays_above o Says on.0 key leads.0 on.1 result stays (removes_on_way (suc steps) (omega arith) on.0 node (below, rw sub-one on.2, leads.2))

-- a leaf node whose leaf was left a pair isn't left with a retired leaf alone
pub settled_on_way : {K V : Type 0} {LEN : ℕ} {cmp : K → K → Ordering} (o : IsTotalOrder cmp) (key : K) (old new : TreeArenas K V LEN) (level id node leaf : ℕ)
    → level ≡ 1 → LeadsTo cmp key level old id node leaf → Replaces 0 old new (leaf ∷ []) (leaf ∷ []) → (IsRetired 0 new leaf → ⊥) → HasOnlyRetired new id → ⊥
settled_on_way {cmp = cmp} o key old new level id node leaf one leads r live only =
    let part : IsPart cmp 1 old id = rw one at leads.0 in
    let s : Stands cmp 1 old None id None = part.stands in
    let to : id ≡ node = rw one at leads.1 in
    let which : HasChildFor cmp key (get old.nodes id) leaf = rw to leads.2 in
    let alone = only_unbounded (keyed s.node).entries s.last only.0 (rw (same_node o 0 old id leaf key part which None None s new r, s.here, s.last_is) at only.1.0) in
    let same : only.0 ≡ leaf = cc (alone.1, rw (s.here, s.last_is, alone.0) at which) in
    live (rw same at only.1.1)

-- what is retired has no key
pub fails_at : {K V : Type 0} {LEN : ℕ} (cmp : K → K → Ordering) (Says : V → Bool → Type 0) (key : K) (level : ℕ) → 0 < level
    → (a : TreeArenas K V LEN) (id : ℕ) → IsRetired level a id → RemovesUnder cmp Says level a a id Fail key
fails_at cmp Says key level deep a id retired = grind (arith, walk-retired, replaces_refl)
