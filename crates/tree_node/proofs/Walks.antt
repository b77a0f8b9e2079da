-- The walk of what stands under a number: its bounds, and where a key is in it.
use Rattle.std.proofs.Common.{◌≡◌, ℕ, zero, suc, Bool, List, [], ◌∷◌, ◌++◌, map, Option, Some, refl, flat_map, append-nil, arith}
use Rattle.tree_node.proofs.Words.{IsTotalOrder, IsAscending, flat_map-append, AllLarger, pair_at, IsAscending-append, all_map, all-append, AllByRecursion, Less, Ordering, TreeArenas, get, leaf_entries, AreParted, HasChildFor, IsAbove, IsBelow, IsUpTo, Stands, back_at, child_at, children_of, front_at, is_from, keyed, leaves_at, walk}
use Rattle.tree_node.proofs.Between.{found_between}
use Rattle.tree_node.proofs.Lists.{flat_map-flat_map}
use Rattle.tree_node.proofs.Order.{upto_less, upto_from_test, less_from_test}

-- the walk of a node is that of its children
pub walk-children : {K V : Type 0} {LEN : ℕ} (level : ℕ) (a : TreeArenas K V LEN) (id : ℕ) → walk (suc level) a id ≡ flat_map (walk level a) (children_of a.nodes id)
walk-children level a id = flat_map-flat_map (leaf_entries a.leaves) (leaves_at level a.nodes) (children_of a.nodes id)

module _ {K : Type 0} {cmp : K → K → Ordering} (o : IsTotalOrder cmp) where
  -- a bound passed on over a separator
  pub above_next : (low : Option K) (s k : K) → IsAbove cmp low s → IsAbove cmp (Some s) k → IsAbove cmp low k
  above_next low s k p q = grind (arith, o.trans)

  pub up_to_next : (high : Option K) (s k : K) → IsBelow cmp s high → IsUpTo cmp k (Some s) → IsUpTo cmp k high
  up_to_next high s k p q = grind (arith, upto_less o k s)

-- the keys of the pairs ascend between two bounds
pub record IsWithin {K V : Type 0} (cmp : K → K → Ordering) (low high : Option K) (pairs : List (K × V)) : Type 0 where
  pub above : AllByRecursion (λ p. IsAbove cmp low p.0) pairs
  pub up_to : AllByRecursion (λ p. IsUpTo cmp p.0 high) pairs
  pub ascending : IsAscending cmp pairs

module _ {K V : Type 0} {cmp : K → K → Ordering} (o : IsTotalOrder cmp) where
  -- so those of parts between separators do together
  pub parted_within : (Child : Option K → ℕ → Option K → Type 0) (part : ℕ → List (K × V)) → ((low : Option K) (id : ℕ) (high : Option K) → Child low id high → IsWithin cmp low high (part id))
      → (low : Option K) (pairs : List (K × ℕ)) (last : ℕ) (high : Option K) → AreParted cmp Child low pairs last high
      → IsWithin cmp low high (flat_map part (map (λ c. c.1) pairs ++ last ∷ []))
  parted_within Child part each low [] last high parted = rw (append-nil (part last)) (each low last high parted)
  parted_within Child part each low (c ∷ rest) last high parted =
      let first = each low c.1 (Some c.0) parted.0 in
      let later = parted_within Child part each (Some c.0) rest last high parted.3 in
      record {
        above = all-append _ (part c.1) _ first.above (all_map (λ p h. above_next o low c.0 p.0 parted.1 h) _ later.above);
        up_to = all-append _ (part c.1) _ (all_map (λ p h. up_to_next o high c.0 p.0 parted.2 h) _ first.up_to) later.up_to;
        ascending = IsAscending-append cmp (part c.1) _ first.ascending later.ascending (all_map (λ p h. all_map (λ q over. upto_less o p.0 c.0 q.0 h over) _ later.above) _ first.up_to);
      }

  pub walk_within : {LEN : ℕ} (level : ℕ) (a : TreeArenas K V LEN) (low : Option K) (id : ℕ) (high : Option K) → Stands cmp level a low id high → IsWithin cmp low high (walk level a id)
  walk_within zero a low id high s = rw (s.here, append-nil) (record { above = s.above; up_to = s.up_to; ascending = s.ascending })
  walk_within (suc level) a low id high s = grind (arith, append-nil, parted_within, walk-children, walk_within level a)

  module _ {LEN : ℕ} (level : ℕ) (a : TreeArenas K V LEN) where
    pub walk_above : (low : Option K) (id : ℕ) (high : Option K) → Stands cmp level a low id high → AllByRecursion (λ p. IsAbove cmp low p.0) (walk level a id)
    walk_above low id high s = (walk_within level a low id high s).above

    pub walk_up_to : (low : Option K) (id : ℕ) (high : Option K) → Stands cmp level a low id high → AllByRecursion (λ p. IsUpTo cmp p.0 high) (walk level a id)
    walk_up_to low id high s = (walk_within level a low id high s).up_to

    pub walk_ascends : (low : Option K) (id : ℕ) (high : Option K) → Stands cmp level a low id high → IsAscending cmp (walk level a id)
    walk_ascends low id high s = (walk_within level a low id high s).ascending

    -- what stands before the child that a key belongs to is below the key, and what stands behind it above
    beside : (k : K) (low : Option K) (pairs : List (K × ℕ)) (last : ℕ) (high : Option K) → AreParted cmp (Stands cmp level a) low pairs last high
        → AllByRecursion (λ p. cmp p.0 k ≡ Less) (flat_map (walk level a) (front_at (is_from cmp k) pairs)) × AllLarger cmp k (flat_map (walk level a) (back_at (is_from cmp k) pairs last))
    beside k low [] last high parted = (tt, tt)
    beside k low (c ∷ rest) last high parted = grind (arith, all-append, walk_up_to, all_map, walk_within, upto_from_test, parted_within, less_from_test, upto_less, beside k (Some c.0) rest last high)

    pub front_walk_below : (low : Option K) (id : ℕ) (high : Option K) (s : Stands cmp (suc level) a low id high) (k : K)
        → AllByRecursion (λ p. cmp p.0 k ≡ Less) (flat_map (walk level a) (front_at (is_from cmp k) (keyed s.node).entries))
    front_walk_below low id high s k = (beside k low _ _ high s.parted).0

    pub back_walk_above : (low : Option K) (id : ℕ) (high : Option K) (s : Stands cmp (suc level) a low id high) (k : K)
        → AllLarger cmp k (flat_map (walk level a) (back_at (is_from cmp k) (keyed s.node).entries s.last))
    back_walk_above low id high s k = (beside k low _ _ high s.parted).1

-- the children are those before the chosen one, that one, and those behind it
pub children_split : {K X : Type 0} (test : K → Bool) (pairs : List (K × X)) (last : X)
    → map (λ c. c.1) pairs ++ last ∷ [] ≡ front_at test pairs ++ child_at test pairs last ∷ back_at test pairs last
children_split test [] last = refl
children_split test (c ∷ rest) last = grind (arith, children_split test rest last)

module _ {K V : Type 0} {LEN : ℕ} {cmp : K → K → Ordering} (o : IsTotalOrder cmp) (level : ℕ) (a : TreeArenas K V LEN) (low : Option K) (id : ℕ) (high : Option K) (s : Stands cmp (suc level) a low id high) (k : K) where
  -- the child for the key is the chosen one
  pub child_is : (child : ℕ) → HasChildFor cmp k (get a.nodes id) child → child ≡ child_at (is_from cmp k) (keyed s.node).entries s.last
  child_is child routed = cc (rw (s.here, s.last_is) at routed)

  -- with the others before and behind it
  pub children_are : (child : ℕ) → HasChildFor cmp k (get a.nodes id) child
      → children_of a.nodes id ≡ front_at (is_from cmp k) (keyed s.node).entries ++ child ∷ back_at (is_from cmp k) (keyed s.node).entries s.last
  children_are child routed = rw (s.here, s.last_is, child_is child routed) (children_split (is_from cmp k) (keyed s.node).entries s.last)

  -- a key is found in the child that it belongs to
  pub found_in_child : (child : ℕ) → HasChildFor cmp k (get a.nodes id) child → pair_at cmp (walk (suc level) a id) k ≡ pair_at cmp (walk level a child) k
  found_in_child child routed =
      rw (walk-children level a id, children_are child routed, flat_map-append (walk level a))
      (found_between o k _ _ _ (front_walk_below o level a low id high s k) (back_walk_above o level a low id high s k))
