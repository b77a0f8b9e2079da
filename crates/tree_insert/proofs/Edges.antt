-- The way of a key that is larger than all leads along the right edge.
use Rattle.tree_insert.proofs.Common.{AllByRecursion, HasChildFor, HasLast, IsPart, IsTotalOrder, Less, List, NodeOf, None, Option, Ordering, Slab, Some, Stands, TreeArenas, [], ap, append-nil}
use Rattle.tree_insert.proofs.Common.{arith, child_part, get, keyed, length, length-append, node_replaces, one_last, refl, same_node, sub-one, suc, sym, walk, walk-children, zero, ℕ, ◌++◌, ◌-◌}
use Rattle.tree_insert.proofs.Common.{◌<◌, ◌∙◌, ◌∷◌, ◌≡◌}
use Rattle.tree_insert.proofs.AppendCommon.{AreParted, IsAbove, IsOnEdge, IsOnWay, IsRetiredNode, Replaces, all_behind, child_at, flat_map, is_from, leaf_entries, map}
use Rattle.std.proofs.lemmas.List.Concat.{flat_map-append}
use Rattle.tree_node.proofs.Bare.{parted_last}
use Rattle.tree_node.proofs.Walks.{above_next, walk_above}

-- a retired node has no last child
pub no_last : {K : Type 0} {LEN : ℕ} (slot : Option (NodeOf K LEN)) → IsRetiredNode slot → (child : ℕ) → HasLast slot child → ⊥
no_last None retired child last = last
no_last (Some node) retired child last = let both : None ≡ Some child = sym retired.1 ∙ last in cc

module _ {K : Type 0} {LEN : ℕ} (nodes : Slab (NodeOf K LEN)) where
  -- one number stands at the end of so many steps
  pub one_end : (steps : ℕ) (id x y : ℕ) → IsOnEdge steps nodes id x → IsOnEdge steps nodes id y → x ≡ y
  one_end zero id x y first second = sym first ∙ second
  one_end (suc steps) id x y first second =
      let same : first.0 ≡ second.0 = one_last (get nodes id) first.0 second.0 first.1 second.1 in
      one_end steps second.0 x y (rw same at first.2) second.2

  -- a step more
  edge_on : (steps : ℕ) (id node child : ℕ) → IsOnEdge steps nodes id node → HasLast (get nodes node) child → IsOnEdge (suc steps) nodes id child
  edge_on zero id node child edge last = (child, rw edge last, refl)
  edge_on (suc steps) id node child edge last = (edge.0, edge.1, edge_on steps edge.0 node child edge.2 last)

  -- so the last child of the node at the end stands one level below it
  pub edge_below : (level : ℕ) → 0 < level → (id node child : ℕ) → IsOnEdge (level - 1) nodes id node → HasLast (get nodes node) child → IsOnEdge level nodes id child
  edge_below zero deep id node child edge last = absurd (omega (arith, deep))
  edge_below (suc level) deep id node child edge last = edge_on level id node child (rw sub-one at edge) last

module _ {K : Type 0} {cmp : K → K → Ordering} (o : IsTotalOrder cmp) (key : K) where
  -- a key above the first of some pairs is above what they are above
  above_first : {V : Type 0} (low : Option K) (pairs : List (K × V)) → 0 < length pairs → AllByRecursion (λ p. IsAbove cmp low p.0) pairs → AllByRecursion (λ p. cmp p.0 key ≡ Less) pairs → IsAbove cmp low key
  above_first low [] some above smaller = absurd (omega (arith, some))
  above_first low (p ∷ rest) some above smaller = above_next o low p.0 key above.0 smaller.0

  -- a key above what the last child is above belongs to that child
  goes_last : (Child : Option K → ℕ → Option K → Type 0) (last : ℕ) (high : Option K) → ((low : Option K) → Child low last high → IsAbove cmp low key)
      → (low : Option K) (pairs : List (K × ℕ)) → AreParted cmp Child low pairs last high → (child_at (is_from cmp key) pairs last ≡ last) × IsAbove cmp low key
  goes_last Child last high above low [] parted = (refl, above low parted)
  goes_last Child last high above low (c ∷ rest) parted =
      let later = goes_last Child last high above (Some c.0) rest parted.3 in
      (rw later.1 later.0, above_next o low c.0 key parted.1 later.1)

module _ {K V : Type 0} {LEN : ℕ} {cmp : K → K → Ordering} (o : IsTotalOrder cmp) (a : TreeArenas K V LEN) (leaf : ℕ) (some : 0 < length (leaf_entries a.leaves leaf)) where
  -- the last child of a part, and what stands there
  record LastBelow (level : ℕ) (id child : ℕ) : Type 0 where
    bound : Option K
    stands : Stands cmp level a bound child None
    front : List (K × V)
    walked : walk (suc level) a id ≡ front ++ walk level a child

  last_below : (level : ℕ) (low : Option K) (id child : ℕ) → Stands cmp (suc level) a low id None → HasLast (get a.nodes id) child → LastBelow level id child
  last_below level low id child s last =
      let same : s.last ≡ child = cc (s.last_is, rw s.here at last) in
      let below = parted_last cmp a (Stands cmp level a) low (keyed s.node).entries child None (rw same at s.parted) in
      record {
        bound = below.0;
        stands = below.1;
        front = flat_map (walk level a) (map (λ c. c.1) (keyed s.node).entries);
        walked = rw (walk-children level a id, s.here, s.last_is, same, flat_map-append (walk level a) (map (λ c. c.1) (keyed s.node).entries), append-nil (walk level a child)) refl;
      }

  -- a part whose last leaf has a pair has one
  some_walked : (level : ℕ) (low : Option K) (id : ℕ) → Stands cmp level a low id None → IsOnEdge level a.nodes id leaf → 0 < length (walk level a id)
  some_walked zero low id s edge = rw (edge, append-nil (leaf_entries a.leaves leaf)) some
  some_walked (suc level) low id s edge =
      let below = last_below level low id edge.0 s edge.1 in
      omega (arith, ap length below.walked, length-append below.front (walk level a edge.0), some_walked level below.bound edge.0 below.stands edge.2)

  module _ (key : K) where
    -- the step along the edge
    record Step (level : ℕ) (id child : ℕ) : Type 0 where
      which : HasChildFor cmp key (get a.nodes id) child
      bound : Option K
      stands : Stands cmp level a bound child None
      smaller : AllByRecursion (λ p. cmp p.0 key ≡ Less) (walk level a child)

    step : (level : ℕ) (low : Option K) (id : ℕ) → Stands cmp (suc level) a low id None → (edge : IsOnEdge (suc level) a.nodes id leaf) → AllByRecursion (λ p. cmp p.0 key ≡ Less) (walk (suc level) a id) → Step level id edge.0
    step level low id s edge smaller =
        let below = last_below level low id edge.0 s edge.1 in
        let left = all_behind _ below.front (walk level a edge.0) (rw below.walked at smaller) in
        let same : s.last ≡ edge.0 = cc (s.last_is, rw s.here at edge.1) in
        let over = λ (bound : Option K) (st : Stands cmp level a bound edge.0 None).
        above_first o key bound (walk level a edge.0) (some_walked level bound edge.0 st edge.2) (walk_above o level a bound edge.0 None st) left in
        let goes = goes_last o key (Stands cmp level a) edge.0 None over low (keyed s.node).entries (rw same at s.parted) in
        record { which = rw (s.here, s.last_is, same) (ap Some goes.0); bound = below.bound; stands = below.stands; smaller = left }

    -- so the key is larger than all in the leaf
    pub larger_there : (level : ℕ) (low : Option K) (id : ℕ) → Stands cmp level a low id None → IsOnEdge level a.nodes id leaf → AllByRecursion (λ p. cmp p.0 key ≡ Less) (walk level a id) → AllByRecursion (λ p. cmp p.0 key ≡ Less) (walk 0 a leaf)
    larger_there zero low id s edge smaller = rw edge at smaller
    larger_there (suc level) low id s edge smaller = let along = step level low id s edge smaller in larger_there level along.bound edge.0 along.stands edge.2 along.smaller

    -- The way of the key leads along the edge: to the leaf node at its end, and to the leaf under it.
    pub edge_way : (level : ℕ) (low : Option K) (id : ℕ) → Stands cmp (suc level) a low id None → IsOnEdge (suc level) a.nodes id leaf → AllByRecursion (λ p. cmp p.0 key ≡ Less) (walk (suc level) a id)
        → (node : ℕ) × IsOnWay cmp key level a id node × HasChildFor cmp key (get a.nodes node) leaf × IsOnEdge level a.nodes id node
    edge_way zero low id s edge smaller = let along = step zero low id s edge smaller in (id, refl, rw edge.2 at along.which, refl)
    edge_way (suc level) low id s edge smaller =
        let along = step (suc level) low id s edge smaller in
        let further = edge_way level along.bound edge.0 along.stands edge.2 along.smaller in
        (further.0, (edge.0, along.which, further.1), further.2, (edge.0, edge.1, further.3))

    -- a change under the node at the end of the edge leaves the edge
    pub edge_stays : (new : TreeArenas K V LEN) (node : ℕ) → Replaces 1 a new (node ∷ []) (node ∷ []) → (level id : ℕ) → IsPart cmp (suc level) a id → IsOnEdge (suc level) a.nodes id leaf → AllByRecursion (λ p. cmp p.0 key ≡ Less) (walk (suc level) a id)
        → IsOnEdge level a.nodes id node → IsOnEdge level new.nodes id node × Replaces (suc level) a new (id ∷ []) (id ∷ [])
    edge_stays new node replaces zero id part edge smaller down = (down, rw down replaces)
    edge_stays new node replaces (suc level) id part edge smaller down =
        let along = step (suc level) None id part.stands edge smaller in
        let same : down.0 ≡ edge.0 = one_last (get a.nodes id) down.0 edge.0 down.1 edge.1 in
        let below = edge_stays new node replaces level edge.0 (child_part o (suc level) a id edge.0 key part along.which None None part.stands) edge.2 along.smaller (rw same at down.2) in (
          (edge.0, rw (same_node o (suc level) a id edge.0 key part along.which None None part.stands new below.1) edge.1, below.0),
          node_replaces o (suc level) a id edge.0 key part along.which None None part.stands new below.1,
        )
