-- The leaf of a key that lost its last pair, seen from a node above it: how the drop of each child that is left empty makes the removal one under that node.
use Rattle.tree_remove.proofs.Common.{Bool, BranchOf, DropsChild, DropsEmptied, DropsKeyed, Emptied, HasChildIn, Internal, IsChain, IsChildAt, IsOnWay, IsPart, IsRetiredNode, IsSome}
use Rattle.tree_remove.proofs.Common.{IsTotalOrder, LeadsTo, Leaf, List, NodeOf, None, Option, Ordering, RemoveResult, RemovesUnder, Retired, RetiresIfEmpty, Some, Success, TakesOut, TreeArenas}
use Rattle.tree_remove.proofs.Common.{arith, get, inl, node_used, only_child, outer_level, pair_at, refl, some_child, sub-one, suc, surely, sym, times-nil, true}
use Rattle.tree_remove.proofs.Common.{unbounded, walk, zero, ℕ, ◌++◌, ◌-◌, ◌<◌, ◌∙◌, ◌∷◌, ◌≡◌}
use Rattle.tree_node.proofs.Levels.{kind_of}
use Rattle.tree_remove.proofs.ChildDrops.{child_goes, keyed_goes, ChildIn, apart_below, child_in, part_below, slot_kept}
use Rattle.tree_remove.proofs.NodeRemovals.{leaf_kept, part_left, removes_settled, settled_if_empty, stays_above}

module _ {K V : Type 0} {LEN : ℕ} (cmp : K → K → Ordering) where
  -- a leaf node over the leaf, and what is left of the part once it is dropped or kept
  pub record OverLeaf (level : ℕ) (before now : TreeArenas K V LEN) (id child : ℕ) (key : K) (slot : Option ℕ) : Type 0 where
    pub linked : (front : List ℕ) × (back : List ℕ) × IsChain now.leaves (front ++ child ∷ back)
    pub has_slot : HasChildIn (get now.nodes id) slot
    pub stays : RemovesUnder cmp surely 1 before now id Success key
    pub drops : (mid : TreeArenas K V LEN) (place : ℕ) → slot ≡ Some place → DropsKeyed cmp 0 now mid id child place
        → RemovesUnder cmp surely 1 before mid id Success key
    -- the part is one of this level still, and a removal that is settled is one at the level
    pub part : (mid : TreeArenas K V LEN) → RemovesUnder cmp surely 1 before mid id Success key → IsPart cmp 1 mid id
    pub settled : (mid new : TreeArenas K V LEN) (result : RemoveResult) → RemovesUnder cmp surely 1 before mid id Success key
        → RetiresIfEmpty mid new id result → DropsEmptied cmp level before new id result key

  -- an internal node, and what is left of the part once the leaf is gone from under its child
  pub record OverNode (level lower : ℕ) (before now : TreeArenas K V LEN) (id child : ℕ) (key : K) (slot : Option ℕ) : Type 0 where
    pub inner : 0 < lower
    pub below : Emptied cmp lower before now child key
    pub stays : (mid : TreeArenas K V LEN) (result : RemoveResult) → (result ≡ Retired → ⊥) → RemovesUnder cmp surely lower before mid child result key
        → DropsEmptied cmp level before mid id result key
    pub retired : (mid : TreeArenas K V LEN) → RemovesUnder cmp surely lower before mid child Retired key
        → IsRetiredNode (get mid.nodes child) × (id ≡ child → ⊥) × HasChildIn (get mid.nodes id) slot
    pub goes : (mid new : TreeArenas K V LEN) (result : RemoveResult) → RemovesUnder cmp surely lower before mid child Retired key
        → ((below : ℕ) → DropsChild cmp (suc below) mid new id child slot result) → DropsEmptied cmp level before new id result key

module _ {K V : Type 0} {LEN : ℕ} {cmp : K → K → Ordering} (o : IsTotalOrder cmp) {level : ℕ} {before now : TreeArenas K V LEN} {id : ℕ} {key : K}
    (deep : 0 < level) (e : Emptied cmp level before now id key) where
  -- the nodes are as they were
  node_same : get now.nodes id ≡ get before.nodes id
  node_same = e.removes.replaces.nodes_kept id (node_used level deep before id (inl e.way.0)) (times-nil id)

  -- so the one under the number is there
  pub node_now : IsSome (get now.nodes id)
  node_now = rw node_same (node_used level deep before id (inl e.way.0))

  -- and has a child
  pub has_child : {node : NodeOf K LEN} → get now.nodes id ≡ Some node → unbounded node ≡ None → ⊥
  has_child here none = grind (arith, node_same, some_child, e.way.0)

  pub over_leaf : {node : BranchOf K ℕ LEN} (child : ℕ) (slot : Option ℕ) → get now.nodes id ≡ Some (Leaf node)
      → IsChildAt cmp key node.children node.unbounded_child child slot → OverLeaf cmp level before now id child key slot
  over_leaf {node} child slot here place =
      let was : get before.nodes id ≡ Some (Leaf node) = sym node_same ∙ here in
      let one : level ≡ 1 = outer_level level deep before id e.way.0 node was in
      let at : ChildIn cmp 0 before id child key slot = child_in child key slot (rw one at e.way.0) was place in
      let node_is : id ≡ e.node = rw one at e.way.1 in
      let leaf_is = only_child cmp key (get before.nodes id) e.leaf child (rw node_is e.way.2) at.which in
      let removes : RemovesUnder cmp surely 0 before now child Retired key = rw leaf_is at e.removes in
      let part = part_below o at in
      record {
        linked = (part.front, part.back, removes.replaces.chained part.front part.back part.chain);
        has_slot = slot_kept o at removes.replaces;
        stays = leaf_kept cmp surely key o child at.part at.which removes;
        drops = λ mid place is drops. keyed_goes o surely at removes is drops;
        part = λ mid left. part_left cmp surely key at.part left;
        settled = λ mid new result left settles.
            record { removes = rw one (removes_settled cmp surely key result left settles); settled = λ one. settled_if_empty mid new id result settles };
      }

  pub over_node : {node : BranchOf K ℕ LEN} (child : ℕ) (slot : Option ℕ) → get now.nodes id ≡ Some (Internal node)
      → IsChildAt cmp key node.children node.unbounded_child child slot → OverNode cmp level (level - 1) before now id child key slot
  over_node {node} child slot here place = by_level level deep e.way.0 e.way.1
    where
      was : get before.nodes id ≡ Some (Internal node)
      was = sym node_same ∙ here

      by_level : (level : ℕ) → 0 < level → IsPart cmp level before id → IsOnWay cmp key (level - 1) before id e.node
          → OverNode cmp level (level - 1) before now id child key slot
      by_level zero deep part way = absurd (omega (arith, deep))
      by_level (suc zero) deep part way = absurd (kind_of cmp before id 0 (Internal node) part.stands was)
      by_level (suc (suc below)) deep part way =
          let at : ChildIn cmp (suc below) before id child key slot = child_in child key slot part was place in
          let on : IsOnWay cmp key (suc below) before id e.node = rw sub-one at way in
          let same = only_child cmp key (get before.nodes id) on.0 child on.1 at.which in
          rw (sub-one (suc (suc below))) (record {
            inner = omega arith;
            below = record { node = e.node; leaf = e.leaf; way = rw sub-one (part_below o at, (rw same at on.2), e.way.2); removes = e.removes };
            stays = λ mid result stays removes.
                record { removes = stays_above o surely child key part at.which result stays removes; settled = λ one. absurd (omega (arith, one)) };
            retired = λ mid gone. (gone.leaves.0, apart_below o at, slot_kept o at gone.replaces);
            goes = λ mid new result gone drops. record { removes = child_goes o surely slot at gone (drops below); settled = λ one. absurd (omega (arith, one)) };
          })

-- the leaf of a key lost its last pair, of which some condition said so
pub emptied_by : {K V : Type 0} {LEN : ℕ} {cmp : K → K → Ordering} {Says : V → Bool → Type 0} {level : ℕ} {before now : TreeArenas K V LEN} {id leaf : ℕ}
    {key : K} (node : ℕ) → LeadsTo cmp key level before id node leaf → RemovesUnder cmp Says 0 before now leaf Retired key → Emptied cmp level before now id key
emptied_by {cmp = cmp} {before = before} {now = now} {leaf = leaf} {key = key} node leads r =
    let out = r.pairs.0 in
    let taken : TakesOut cmp surely (walk 0 before leaf) key (walk 0 now leaf) = record { pair = out.pair; was = out.was; said = refl; left = out.left } in
    let removes : RemovesUnder cmp surely 0 before now leaf Retired key = grind (arith, taken, r.pairs, r.leaves, r.replaces, r.spare) in
    record { node = node; leaf = leaf; way = leads; removes = removes }

-- what surely goes is what the condition said so of
module _ {K V : Type 0} {LEN : ℕ} (cmp : K → K → Ordering) (Says : V → Bool → Type 0) (level : ℕ) (before now : TreeArenas K V LEN) (id : ℕ) (key : K)
    (pair : K × V)
    (found : pair_at cmp (walk level before id) key ≡ Some pair) (says : Says pair.1 true) where
  as_said : {left : List (K × V)} → TakesOut cmp surely (walk level before id) key left → TakesOut cmp Says (walk level before id) key left
  as_said t =
      let same : t.pair ≡ pair = cc (t.was, found) in
      record { pair = t.pair; was = t.was; said = rw same says; left = t.left }

  pub goes_as_said : (result : RemoveResult) → RemovesUnder cmp surely level before now id result key → RemovesUnder cmp Says level before now id result key
  goes_as_said result r = grind (arith, as_said, r.pairs, r.leaves, r.replaces, r.spare, found)
