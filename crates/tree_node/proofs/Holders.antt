-- A leaf of a whole tree whose first and last key lie around a key is the leaf that the key belongs to.
use Rattle.std.proofs.Common.{◌≡◌, ℕ, zero, suc, ◌<◌, true, List, [], ◌∷◌, ◌++◌, map, Option, Some, None, IsSome, refl, arith, sub-one, flat_map, Ordering, is_le}
use Rattle.tree_node.proofs.DescentWords.{IsTotalOrder, cases_eq, get, LeafOf, leaf_entries, TreeArenas, times, times-append, times-cons, times-nil, none_here, uses_some, AreParted, HasChildFor, IsAbove, IsUpTo, IsTree, Stands, child_at, is_from, keyed, leaves_at, root_at, all_middle, above_next, up_to_next, IsOnWay, LeadsTo}
use Rattle.tree_array.specs.Spans.{Spans}
use Rattle.tree_leaf.specs.Entries.{found_entries}
use Rattle.tree_node.proofs.Standing.{no_children}
use Rattle.tree_node.proofs.Whole.{tree_part}

module _ {K : Type 0} {cmp : K → K → Ordering} (o : IsTotalOrder cmp) where
  -- a separator that a key is up to is one for the key
  from_up_to : (s k : K) → is_le (cmp k s) ≡ true → is_from cmp k s ≡ true
  from_up_to s k up_to = grind (arith, o.antisymm s k)

  -- a key up to another one is up to what that is up to
  up_to_with : (high : Option K) (k x : K) → is_le (cmp k x) ≡ true → IsUpTo cmp x high → IsUpTo cmp k high
  up_to_with high k x le up_to = grind arith

  above_with : (low : Option K) (x k : K) → IsAbove cmp low x → is_le (cmp x k) ≡ true → IsAbove cmp low k
  above_with low x k above le = grind arith

module _ {K V : Type 0} {LEN : ℕ} {cmp : K → K → Ordering} (o : IsTotalOrder cmp) (a : TreeArenas K V LEN) (key : K) (n : ℕ) where
  -- The key is between the bounds of what stands under a number, and leads from there to the leaf.
  record Holds (level : ℕ) (low : Option K) (id : ℕ) (high : Option K) : Type 0 where
    above : IsAbove cmp low key
    up_to : IsUpTo cmp key high
    way : IsOnWay cmp key level a id n

  -- of the children of a node the one under which the leaf is reached is that of the key
  held_below : (level : ℕ) → ((low : Option K) (id : ℕ) (high : Option K) → Stands cmp level a low id high → 0 < times n (leaves_at level a.nodes id) → Holds level low id high)
      → (low : Option K) (pairs : List (K × ℕ)) (last : ℕ) (high : Option K) → AreParted cmp (Stands cmp level a) low pairs last high
      → 0 < times n (flat_map (leaves_at level a.nodes) (map (λ c. c.1) pairs ++ last ∷ [])) → Holds level low (child_at (is_from cmp key) pairs last) high
  held_below level each low [] last high parted reached = each low last high parted (omega (arith, reached, times-append n (leaves_at level a.nodes last) [], times-nil n))
  held_below level each low (c ∷ rest) last high parted reached = grind (arith, above_next, up_to_next, times-append, from_up_to, times-nil, held_below level each (Some c.0) rest last high)

  -- a step of the way to a leaf is the last one
  last_step : (level id : ℕ) → IsOnWay cmp key (suc level) a id n → (node : ℕ) × IsOnWay cmp key level a id node × HasChildFor cmp key (get a.nodes node) n
  last_step zero id way = (id, refl, rw way.2 at way.1)
  last_step (suc level) id way = let below = last_step level way.0 way.2 in (below.0, (way.0, way.1, below.1), below.2)

  module _ (spans : Spans cmp (leaf_entries a.leaves n) key) where
    held_leaf : (low : Option K) (id : ℕ) (high : Option K) → Stands cmp 0 a low id high → 0 < times n (leaves_at 0 a.nodes id) → Holds 0 low id high
    held_leaf low id high s reached = grind (arith, above_with, up_to_with, all_middle, times-cons, none_here, times-nil, cases_eq n id)

    held : (level : ℕ) (low : Option K) (id : ℕ) (high : Option K) → Stands cmp level a low id high → 0 < times n (leaves_at level a.nodes id) → Holds level low id high
    held zero low id high s reached = held_leaf low id high s reached
    held (suc level) low id high s reached =
        let it = held_below level (held level) low (keyed s.node).entries s.last high s.parted (rw (s.here, s.last_is) at reached) in
        record { above = it.above; up_to = it.up_to; way = (child_at (is_from cmp key) (keyed s.node).entries s.last, rw (s.here, s.last_is) refl, it.way) }

    on_way : (level id : ℕ) → 0 < level → IsTree cmp a (Some (root_at id level)) → Stands cmp level a None id None → 0 < times n (leaves_at level a.nodes id) → (node : ℕ) × LeadsTo cmp key level a id node n
    on_way zero id deep tree stands reached = absurd (omega (arith, deep))
    on_way (suc level) id deep tree stands reached =
        let way = last_step level id (held (suc level) None id None stands reached).way in
        (way.0, (tree_part a id (suc level) tree stands, rw sub-one way.1, way.2))

    in_use : (found : Option (LeafOf K V LEN)) → Spans cmp (found_entries found) key → IsSome found
    in_use found none = grind arith

    -- In a whole tree the key belongs to the leaf.
    pub leads_there : (id level : ℕ) → IsTree cmp a (Some (root_at id level)) → (node : ℕ) × LeadsTo cmp key level a id node n
    leads_there id level tree = grind (arith, in_use, on_way, no_children, uses_some, times-nil)
