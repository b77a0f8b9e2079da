-- The leaf that a key belongs to: the keys before it are smaller, and those behind it larger.
use Rattle.std.proofs.Common.{◌≡◌, ℕ, zero, suc, ◌<◌, List, [], ◌++◌, Option, Some, None, MatchOption, refl, sym, append_assoc, arith, sub-one, flat_map, Ordering, Less}
use Rattle.tree_node.proofs.DescentWords.{IsTotalOrder, flat_map-append, pair_at, get, entries_of, leaf_entries, TreeArenas, HasChildFor, IsRetired, Stands, back_at, child_of, front_at, is_from, keyed, leaves_at, walk, BranchOf, Leaf, child_stands, leaf_there, flat_map-flat_map, back_walk_above, children_are, front_walk_below, IsLeafFor, IsOnWay}
use Rattle.tree_array.proofs.Common.{all-append}
use Rattle.tree_node.proofs.Between.{found_between}
use Rattle.tree_node.proofs.Ways.{IsDown, arrives, stops}

module _ {K V : Type 0} {LEN : ℕ} {cmp : K → K → Ordering} (o : IsTotalOrder cmp) (a : TreeArenas K V LEN) (k : K) where
  -- the leaf has the pair that the part has
  pub found_in_leaf : (level id leaf : ℕ) → IsLeafFor cmp k level a id leaf → pair_at cmp (walk level a id) k ≡ pair_at cmp (leaf_entries a.leaves leaf) k
  found_in_leaf level id leaf is = grind (arith, found_between, flat_map-append)

  -- a node has that of its child for the key
  routed : (level id child leaf : ℕ) → Stands cmp (suc level) a None id None → HasChildFor cmp k (get a.nodes id) child → IsLeafFor cmp k level a child leaf → IsLeafFor cmp k (suc level) a id leaf
  routed level id child leaf s route below = record {
    here = below.here;
    front = flat_map (leaves_at level a.nodes) before ++ below.front;
    back = below.back ++ flat_map (leaves_at level a.nodes) behind;
    parts = rw (children_are o level a None id None s k child route, flat_map-append (leaves_at level a.nodes) before, below.parts) (simp append_assoc);
    smaller = rw (flat_map-append (leaf_entries a.leaves) (flat_map (leaves_at level a.nodes) before) below.front, flat_map-flat_map (leaf_entries a.leaves) (leaves_at level a.nodes) before)
        (all-append (λ pair. cmp pair.0 k ≡ Less) (flat_map (walk level a) before) (entries_of a.leaves below.front) (front_walk_below o level a None id None s k) below.smaller);
    larger = rw (flat_map-append (leaf_entries a.leaves) below.back (flat_map (leaves_at level a.nodes) behind), flat_map-flat_map (leaf_entries a.leaves) (leaves_at level a.nodes) behind)
        (all-append (λ pair. cmp k pair.0 ≡ Less) (entries_of a.leaves below.back) (flat_map (walk level a) behind) below.larger (back_walk_above o level a None id None s k));
  }
    where
      before : List ℕ
      before = front_at (is_from cmp k) (keyed s.node).entries

      behind : List ℕ
      behind = back_at (is_from cmp k) (keyed s.node).entries s.last

  -- the way of the key ends at it
  at_end : (steps id node leaf : ℕ) → Stands cmp (suc steps) a None id None → IsOnWay cmp k steps a id node → HasChildFor cmp k (get a.nodes node) leaf → IsLeafFor cmp k (suc steps) a id leaf
  at_end zero id node leaf s way which =
      let route = rw (← way) at which in
      let there = leaf_there a leaf None None (child_stands o 0 a id s k leaf route) in
      routed 0 id leaf leaf s route (record { here = there; front = []; back = []; parts = refl; smaller = tt; larger = tt })
  at_end (suc steps) id node leaf s way which = routed (suc steps) id way.0 leaf s way.1 (at_end steps way.0 node leaf (child_stands o (suc steps) a id s k way.0 way.1) way.2 which)

  -- so it is what the way down finds under its last node
  pub leaf_found : (level id above at : ℕ) → 0 < level → IsDown cmp a k level id above at → (node : BranchOf K ℕ LEN) → get a.nodes at ≡ Some (Leaf node)
      → (found : Option ℕ) → found ≡ child_of cmp k node.children.entries node.unbounded_child → MatchOption found (IsRetired level a id) (IsLeafFor cmp k level a id)
  leaf_found level id above at inner down node here None none = stops o down (Leaf node) here (sym none)
  leaf_found zero id above at inner down node here (Some leaf) chosen = absurd (omega (arith, inner))
  leaf_found (suc level) id above at inner down node here (Some leaf) chosen =
      let it = arrives o down node leaf (sym chosen) here in at_end level id at leaf it.stands (rw sub-one at it.way) it.which
