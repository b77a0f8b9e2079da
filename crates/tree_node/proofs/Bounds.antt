-- How many pairs stand under a number at most.
use Rattle.std.proofs.Common.{ℕ, zero, suc, ◌+◌, ◌*◌, ◌^◌, ◌≤◌, List, [], ◌∷◌, length, length-append, Option, None, arith, mul-suc, flat_map, append-nil, Ordering, mul-add}
use Rattle.tree_node.proofs.Common.{AllByRecursion, IsPart, Stands, TreeArenas, children_of, flat_map-append, last_free, leaves_at, length-map, nodes_at, parted_all, walk, walk-children, slab_len, once_fits}
use Rattle.std.proofs.Math.Nat.{mul-le-mul_left, pow-suc, pow-zero}

-- lists of a bounded length, one after another
length-flat_map : {X Y : Type 0} (f : X → List Y) (most : ℕ) (xs : List X) → AllByRecursion (λ x. length (f x) ≤ most) xs → length (flat_map f xs) ≤ most * length xs
length-flat_map f most [] all = omega arith
length-flat_map f most (x ∷ xs) all = omega (arith, length-append (f x) (flat_map f xs), length-flat_map f most xs all.1, all.0, mul-suc most (length xs))

lengths-flat_map : {X Y Z : Type 0} (f : X → List Y) (g : X → List Z) (most : ℕ) (xs : List X)
    → AllByRecursion (λ x. length (f x) ≤ most * length (g x)) xs → length (flat_map f xs) ≤ most * length (flat_map g xs)
lengths-flat_map f g most [] all = omega arith
lengths-flat_map f g most (x ∷ xs) all = simp length-append (omega (arith, lengths-flat_map f g most xs all.1, all.0, mul-add most (length (g x)) (length (flat_map g xs))))

module _ {K V : Type 0} {LEN : ℕ} (cmp : K → K → Ordering) (a : TreeArenas K V LEN) where
  leaves_count : (level : ℕ) (low : Option K) (id : ℕ) (high : Option K) → Stands cmp level a low id high → length (leaves_at level a.nodes id) ≤ (LEN + 1) ^ level
  leaves_count zero low id high s = omega (arith, pow-zero (LEN + 1))
  leaves_count (suc level) low id high s =
      let parts : AllByRecursion (λ x. length (leaves_at level a.nodes x) ≤ (LEN + 1) ^ level) (children_of a.nodes id) =
      rw (s.here, s.last_is) (parted_all cmp (Stands cmp level a) _ (leaves_count level) low _ _ high s.parted) in
      let children : length (children_of a.nodes id) ≤ LEN + 1 = rw (s.here, s.last_is) (simp (length-append, length-map) (omega (arith, s.few))) in
      let many = length-flat_map (leaves_at level a.nodes) ((LEN + 1) ^ level) (children_of a.nodes id) parts in
      omega (arith, many, mul-le-mul_left ((LEN + 1) ^ level) children, pow-suc (LEN + 1) level)

  -- as many leaves as slots and one at every level, each with as many entries as slots
  pub entries_few : (level : ℕ) (low : Option K) (id : ℕ) (high : Option K) → Stands cmp level a low id high → length (walk level a id) ≤ LEN * length (leaves_at level a.nodes id)
  entries_few zero low id high s = rw (s.here, append-nil) (omega (arith, s.few))
  entries_few (suc level) low id high s =
      rw (walk-children level a id, s.here, s.last_is)
      (lengths-flat_map (walk level a) (leaves_at level a.nodes) LEN _ (parted_all cmp (Stands cmp level a) _ (entries_few level) low _ _ high s.parted))

  pub walk_few : (level : ℕ) (low : Option K) (id : ℕ) (high : Option K) → Stands cmp level a low id high → length (walk level a id) ≤ LEN * (LEN + 1) ^ level
  walk_few level low id high s = omega (arith, entries_few level low id high s, mul-le-mul_left LEN (leaves_count level low id high s))

  -- a part has a node at each level
  level_few : (level : ℕ) (low : Option K) (id : ℕ) (high : Option K) → Stands cmp level a low id high → level ≤ length (nodes_at level a.nodes id)
  level_few zero low id high s = omega arith
  level_few (suc level) low id high s = grind (arith, flat_map-append, append-nil, last_free, length-append, level_few level None s.last None (last_free cmp level a low id high s))

  -- a part has no more levels than nodes are in use
  pub part_levels : (level : ℕ) (id : ℕ) → IsPart cmp level a id → level ≤ slab_len a.nodes
  part_levels level id part = omega (arith, level_few level None id None part.stands, once_fits a.nodes (nodes_at level a.nodes id) part.nodes_once)
