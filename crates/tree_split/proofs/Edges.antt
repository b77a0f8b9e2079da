-- Parts that are packed along their right edge: what keeps them so, and how many pairs they have.
use Rattle.std.proofs.Common.{◌≡◌, ℕ, zero, suc, ◌*◌, ◌<◌, ◌≤◌, ◌^◌, List, [], ◌∷◌, ◌++◌, map, length, length-append, Option, Some, None, refl, sym, ap, ◌∙◌, arith, mul-suc, flat_map, Ordering, Less, append-nil}
use Rattle.tree_split.proofs.Words.{Agrees, AllByRecursion, HasChildFor, IsAbove, IsBelow, IsPart, IsTotalOrder, Replaces, Slab, Stands, TreeArenas, above_next, agrees_below, agrees_here, all_behind, all_front, all_map, child_at, flat_map-append, front_at, get, head_here, is_from, keyed, last_free, node_is, same_walk, stands_free, walk, walk-children, walk-leaf, walk_above, NodeOf, fronts, same_node, child_between, low_at, separators_beside, HasLast, IsPacked, IsPackedNode}

-- a node that stays is packed where its keyed children are full and its last child is packed
pub packed_on : {K : Type 0} {LEN : ℕ} {cmp : K → K → Ordering} {beyond beyond' : Option K} {Old New : ℕ → Type 0}
    {was is : ℕ → ℕ} {size : ℕ} {a b : Slab (NodeOf K LEN)} {id : ℕ}
    (e : IsPackedNode cmp beyond Old was size a id) → get b id ≡ get a id → AllByRecursion (λ c. IsBelow cmp c.0 beyond') (keyed e.node).entries
    → AllByRecursion (λ c. is c.1 ≡ size) (keyed e.node).entries → New e.last → IsPackedNode cmp beyond' New is size b id
packed_on e same keys full edge = grind arith

module _ {K V : Type 0} {LEN : ℕ} where
  -- children that stay have as many pairs as before
  pub counts_same : (level : ℕ) (a b : TreeArenas K V LEN) (size : ℕ) (pairs : List (K × ℕ)) → AllByRecursion (λ x. Agrees level a b x) (map (λ c. c.1) pairs)
      → AllByRecursion (λ c. length (walk level a c.1) ≡ size) pairs → AllByRecursion (λ c. length (walk level b c.1) ≡ size) pairs
  counts_same level a b size [] same full = tt
  counts_same level a b size (c ∷ rest) same full = (ap length (same_walk level a b c.1 same.0) ∙ full.0, counts_same level a b size rest same.1 full.1)

  module _ (cmp : K → K → Ordering) (beyond : Option K) where
    -- a part that stays is packed as it was
    pub same_packed : (level : ℕ) (a b : TreeArenas K V LEN) (id : ℕ) → Agrees level a b id → IsPacked cmp beyond level a id → IsPacked cmp beyond level b id
    same_packed zero a b id same e = grind (arith, head_here, counts_same, all_behind, all_front, agrees_below, agrees_here, packed_on)
    same_packed (suc level) a b id same e =
        let ids : List ℕ = map (λ c. c.1) (keyed e.node).entries in
        let below : AllByRecursion (λ x. Agrees level a b x) (ids ++ e.last ∷ []) = rw (e.here, e.last_is) at (agrees_below level a b id same) in
        packed_on e (agrees_here level a b id same) e.keys (counts_same level a b _ (keyed e.node).entries (all_front _ ids (e.last ∷ []) below) e.full)
        (same_packed level a b e.last (all_behind _ ids (e.last ∷ []) below).0 e.edge)

-- a key that is larger than all separators belongs to the unbounded child
module _ {K X : Type 0} (cmp : K → K → Ordering) (k : K) where
  goes_last : (pairs : List (K × X)) (last : X) → AllByRecursion (λ c. IsBelow cmp c.0 (Some k)) pairs → child_at (is_from cmp k) pairs last ≡ last
  goes_last [] last smaller = refl
  goes_last (c ∷ rest) last smaller = rw smaller.0 (goes_last rest last smaller.1)

  all_before : (pairs : List (K × X)) → AllByRecursion (λ c. IsBelow cmp c.0 (Some k)) pairs → front_at (is_from cmp k) pairs ≡ map (λ c. c.1) pairs
  all_before [] smaller = refl
  all_before (c ∷ rest) smaller = rw smaller.0 (ap (λ xs. c.1 ∷ xs) (all_before rest smaller.1))

pub one_last : {K : Type 0} {LEN : ℕ} (slot : Option (NodeOf K LEN)) (x y : ℕ) → HasLast slot x → HasLast slot y → x ≡ y
one_last slot x y first second = grind arith

module _ {K V : Type 0} {LEN : ℕ} (cmp : K → K → Ordering) where
  -- a key beyond the edge belongs to the last child
  pub last_for : (level : ℕ) → 0 < level → (old : TreeArenas K V LEN) (id child : ℕ) (k : K) → HasChildFor cmp k (get old.nodes id) child → IsPacked cmp (Some k) level old id → HasLast (get old.nodes id) child
  last_for zero deep old id child k which e = absurd (omega (arith, deep))
  last_for (suc level) deep old id child k which e =
      rw e.here (e.last_is ∙ ap Some (sym (goes_last cmp k (keyed e.node).entries e.last e.keys)) ∙ rw (e.here, e.last_is) at which)

  module _ (level : ℕ) (old : TreeArenas K V LEN) (id child : ℕ) (last : HasLast (get old.nodes id) child) where
    -- the last child of a packed part is packed
    pub edge_of : (beyond : Option K) → IsPacked cmp beyond (suc level) old id → IsPacked cmp beyond level old child
    edge_of beyond e = rw (one_last (get old.nodes id) child e.last last (rw e.here e.last_is)) e.edge

    -- and stands by itself
    pub last_stands : Stands cmp (suc level) old None id None → Stands cmp level old None child None
    last_stands s = rw (one_last (get old.nodes id) child s.last last (rw s.here s.last_is)) (last_free cmp level old None id None s)

module _ {K V : Type 0} {LEN : ℕ} {cmp : K → K → Ordering} (o : IsTotalOrder cmp) (level : ℕ) (old : TreeArenas K V LEN) (id child : ℕ) (k : K)
    (part : IsPart cmp (suc level) old id) (which : HasChildFor cmp k (get old.nodes id) child) (e : IsPacked cmp (Some k) (suc level) old id) where
  pub last_child : child ≡ e.last
  last_child = one_last (get old.nodes id) child e.last (last_for cmp (suc level) (omega arith) old id child k which e) (rw e.here e.last_is)

  pub edge_below : IsPacked cmp (Some k) level old child
  edge_below = rw last_child e.edge

  -- where the child on the edge is changed and stays packed, so does the part
  pub packed_above : (new : TreeArenas K V LEN) → Replaces level old new (child ∷ []) (child ∷ []) → (beyond : Option K) → ((s : K) → cmp s k ≡ Less → IsBelow cmp s beyond)
      → IsPacked cmp beyond level new child → IsPacked cmp beyond (suc level) new id
  packed_above new replaces beyond weaker below =
      let s : Stands cmp (suc level) old None id None = part.stands in
      let kept : AllByRecursion (λ x. Agrees level old new x) (map (λ c. c.1) (keyed e.node).entries) =
      rw (node_is level old None id None s e.node e.here, all_before cmp k (keyed e.node).entries e.keys) at (fronts o level old id child k part which None None s new replaces) in
      packed_on e (same_node o level old id child k part which None None s new replaces) (all_map (λ c smaller. weaker c.0 smaller) _ e.keys)
      (counts_same level old new _ (keyed e.node).entries kept e.full) (rw (← last_child) below)

module _ {K V : Type 0} {LEN : ℕ} (cmp : K → K → Ordering) where
  walk_edge : (level : ℕ) (a : TreeArenas K V LEN) (id : ℕ) (beyond : Option K) (e : IsPacked cmp beyond (suc level) a id)
      → walk (suc level) a id ≡ flat_map (walk level a) (map (λ c. c.1) (keyed e.node).entries) ++ walk level a e.last
  walk_edge level a id beyond e = rw (walk-children level a id, e.here, e.last_is, flat_map-append (walk level a) (map (λ c. c.1) (keyed e.node).entries), append-nil (walk level a e.last)) refl

  -- a packed part has a pair
  packed_some : (level : ℕ) (a : TreeArenas K V LEN) (id : ℕ) → IsPacked cmp None level a id → 0 < length (walk level a id)
  packed_some zero a id e = rw (walk-leaf a id e.leaf e.here) e.ends
  packed_some (suc level) a id e = let last = packed_some level a e.last e.edge in rw (walk_edge level a id None e) (simp length-append (omega (arith, last)))

  -- and more than fit into a keyed child, where it has one
  pub packed_bound : (level : ℕ) (a : TreeArenas K V LEN) (id : ℕ) (e : IsPacked cmp None (suc level) a id) → 0 < length (keyed e.node).entries → LEN ^ suc level < length (walk (suc level) a id)
  packed_bound level a id e some =
      let last = packed_some level a e.last e.edge in
      let first = first_full (keyed e.node).entries e.full some in
      rw (walk_edge level a id None e) (simp length-append (omega (arith, last, first)))
    where
      first_full : (pairs : List (K × ℕ)) → AllByRecursion (λ c. length (walk level a c.1) ≡ LEN ^ suc level) pairs → 0 < length pairs → LEN ^ suc level ≤ length (flat_map (walk level a) (map (λ c. c.1) pairs))
      first_full [] full some = absurd (omega (arith, some))
      first_full (c ∷ rest) full some = omega (arith, full.0, length-append (walk level a c.1) (flat_map (walk level a) (map (λ c. c.1) rest)))

-- as many pairs as full parts have
pub full_length : {A : Type 0} (part : ℕ → List A) (size : ℕ) (ids : List ℕ) → AllByRecursion (λ x. length (part x) ≡ size) ids → length (flat_map part ids) ≡ size * length ids
full_length part size [] full = omega arith
full_length part size (x ∷ rest) full = grind (arith, length-append, mul-suc, full_length part size rest full.1)

-- what a pair is above is what a larger key is above
some_above : {K V : Type 0} {cmp : K → K → Ordering} → IsTotalOrder cmp → (low : Option K) (k : K) (pairs : List (K × V)) → 0 < length pairs
    → AllByRecursion (λ p. IsAbove cmp low p.0) pairs
    → AllByRecursion (λ p. cmp p.0 k ≡ Less) pairs → IsAbove cmp low k
some_above o low k [] some above smaller = absurd (omega (arith, some))
some_above o low k (p ∷ rest) some above smaller = above_next o low p.0 k above.0 smaller.0

module _ {K V : Type 0} {LEN : ℕ} {cmp : K → K → Ordering} (o : IsTotalOrder cmp) where
  -- a key that is larger than all pairs of a packed part is larger than all on its edge
  pub packed_beyond : (k : K) (level : ℕ) (a : TreeArenas K V LEN) (low : Option K) (id : ℕ) (high : Option K) → Stands cmp level a low id high → IsPacked cmp None level a id
      → AllByRecursion (λ p. cmp p.0 k ≡ Less) (walk level a id) → IsPacked cmp (Some k) level a id
  packed_beyond k zero a low id high s e smaller = record { leaf = e.leaf; here = e.here; packed = e.packed; ends = rw (walk-leaf a id e.leaf e.here) at smaller }
  packed_beyond k (suc level) a low id high s e smaller =
      let free : Stands cmp (suc level) a None id None = stands_free cmp (suc level) a low id high s in
      let last_is : free.last ≡ e.last = cc (free.here, free.last_is, e.here, e.last_is) in
      let parted = rw (node_is level a None id None free e.node e.here, last_is, ← append-nil (keyed e.node).entries) at free.parted in
      let last_all = all_behind _ (flat_map (walk level a) (map (λ c. c.1) (keyed e.node).entries)) (walk level a e.last)
      (rw (walk_edge cmp level a id None e) at smaller) in
      let above = walk_above o level a (low_at None (keyed e.node).entries) e.last None
      (child_between o (Stands cmp level a) None (keyed e.node).entries [] e.last None parted) in
      let over = some_above o (low_at None (keyed e.node).entries) k (walk level a e.last) (packed_some cmp level a e.last e.edge) above last_all in
      packed_on e refl (separators_beside o (Stands cmp level a) k None (keyed e.node).entries [] e.last None parted over tt).0 e.full
      (packed_beyond k level a None e.last None (rw last_is at (last_free cmp level a None id None free)) e.edge last_all)
