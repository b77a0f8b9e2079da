-- The least room of the leaves of a part, and of several.
use Rattle.std.proofs.Common.{◌≡◌, ℕ, suc, ◌≤◌, min, List, [], ◌∷◌, ◌++◌, refl, arith}
use Rattle.tree_node.proofs.Common.{AllByRecursion, Agrees, TreeArenas, children_of, each_of, flat_map-append, leaves_at, leaves_of, same_leaves, single_leaves, spare, leaf_spare, least}

least_le : (most : ℕ) (f : ℕ → ℕ) (xs : List ℕ) → least most f xs ≤ most
least_le most f [] = omega arith
least_le most f (x ∷ xs) = omega (arith, least_le most f xs)

least-append : (most : ℕ) (f : ℕ → ℕ) (xs ys : List ℕ) → least most f (xs ++ ys) ≡ min (least most f xs) (least most f ys)
least-append most f [] ys = omega (arith, least_le most f ys)
least-append most f (x ∷ xs) ys = omega (arith, least-append most f xs ys)

-- the least of some numbers, and then of others too
least_from : (least_before most : ℕ) (f : ℕ → ℕ) (ys : List ℕ) → least_before ≤ most → least least_before f ys ≡ min least_before (least most f ys)
least_from least_before most f [] less = omega arith
least_from least_before most f (y ∷ ys) less = omega (arith, least_from least_before most f ys less)

pub least-then : (most : ℕ) (f : ℕ → ℕ) (xs ys : List ℕ) → least most f (xs ++ ys) ≡ least (least most f xs) f ys
least-then most f xs ys = rw (least-append most f xs ys, least_from (least most f xs) most f ys (least_le most f xs)) refl

least_same : (most : ℕ) (f g : ℕ → ℕ) (xs : List ℕ) → AllByRecursion (λ x. f x ≡ g x) xs → least most f xs ≡ least most g xs
least_same most f g [] same = refl
least_same most f g (x ∷ xs) same = rw (same.0, least_same most f g xs same.1) refl

module _ {K V : Type 0} {LEN : ℕ} where
  -- a part that stays has the same room
  pub same_spare : (level : ℕ) (a b : TreeArenas K V LEN) (id : ℕ) → Agrees level a b id → spare level b id ≡ spare level a id
  same_spare level a b id same = grind (arith, each_of, least_same, same_leaves)

  -- the least room of several parts
  abbrev pub spares : ℕ → TreeArenas K V LEN → List ℕ → ℕ
  spares level a ids = least LEN (leaf_spare a.leaves) (leaves_of level a.nodes ids)

  pub spares-append : (level : ℕ) (a : TreeArenas K V LEN) (xs ys : List ℕ) → spares level a (xs ++ ys) ≡ min (spares level a xs) (spares level a ys)
  spares-append level a xs ys = rw (flat_map-append (leaves_at level a.nodes) xs) (least-append LEN _ (leaves_of level a.nodes xs) (leaves_of level a.nodes ys))

  pub spares-cons : (level : ℕ) (a : TreeArenas K V LEN) (x : ℕ) (xs : List ℕ) → spares level a (x ∷ xs) ≡ min (spare level a x) (spares level a xs)
  spares-cons level a x xs = least-append LEN _ (leaves_at level a.nodes x) (leaves_of level a.nodes xs)

  pub spares_same : (level : ℕ) (a b : TreeArenas K V LEN) (xs : List ℕ) → AllByRecursion (λ x. Agrees level a b x) xs → spares level b xs ≡ spares level a xs
  spares_same level a b [] same = refl
  spares_same level a b (x ∷ xs) same = grind (arith, spares-cons, same_spare, spares_same level a b xs same.1)

  -- the room of a node is the least of that of its children
  pub spare_split : (level : ℕ) (a : TreeArenas K V LEN) (id : ℕ) (front ids back : List ℕ) → children_of a.nodes id ≡ front ++ (ids ++ back)
      → spare (suc level) a id ≡ min (spares level a front) (min (spares level a ids) (spares level a back))
  spare_split level a id front ids back was = rw (was, spares-append level a front (ids ++ back), spares-append level a ids back) refl

  pub spares-single : (level : ℕ) (a : TreeArenas K V LEN) (id : ℕ) → spares level a (id ∷ []) ≡ spare level a id
  spares-single level a id = rw (single_leaves level a.nodes id) refl

  -- a part has no more room than an array has slots
  pub spare_le : (level : ℕ) (a : TreeArenas K V LEN) (id : ℕ) → spare level a id ≤ LEN
  spare_le level a id = least_le LEN _ (leaves_at level a.nodes id)
