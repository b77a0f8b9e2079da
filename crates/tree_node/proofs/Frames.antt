-- What stays of a part where what it reaches stays.
use Rattle.std.proofs.Common.{◌≡◌, ℕ, zero, suc, ◌≤◌, List, [], ◌∷◌, ◌++◌, map, Option, Some, refl, arith, flat_map, append-nil}
use Rattle.tree_node.proofs.Words.{all_map, one_here, times-append, times-cons, AllByRecursion, NodeOf, Ordering, SameArray, Slab, TreeArenas, get, times, AreParted, Stands, children_of, leaves_at, leaves_of, nodes_at, nodes_of, walk}
use Rattle.tree_node.proofs.Lists.{flat_map_same}
use Rattle.tree_node.proofs.Standing.{node_kept}

-- a number that heads a list is in it
pub head_here : (n : ℕ) (ids : List ℕ) → 1 ≤ times n (n ∷ ids)
head_here n ids = omega (arith, times-cons n n ids, one_here n n refl)

-- what holds of each number of a list, by counting
pub each_of : {P : ℕ → Type 0} (ids : List ℕ) → ((n : ℕ) → 1 ≤ times n ids → P n) → AllByRecursion P ids
each_of [] h = tt
each_of (x ∷ xs) h = (h x (head_here x xs), each_of xs (λ n inside. h n (omega (arith, times-cons n x xs))))

-- what holds of each number of lists together holds of each number of each list
pub each_part : (f : ℕ → List ℕ) (P : ℕ → Type 0) (xs : List ℕ) → ((n : ℕ) → 1 ≤ times n (flat_map f xs) → P n)
    → AllByRecursion (λ x. (n : ℕ) → 1 ≤ times n (f x) → P n) xs
each_part f P [] h = tt
each_part f P (x ∷ xs) h = grind (arith, times-append, each_part f P xs)

pub all_both : {X : Type 0} (P Q : X → Type 0) (xs : List X) → AllByRecursion P xs → AllByRecursion Q xs → AllByRecursion (λ x. P x × Q x) xs
all_both P Q [] p q = tt
all_both P Q (x ∷ xs) p q = ((p.0, q.0), all_both P Q xs p.1 q.1)

-- several parts that are one
pub single_leaves : {K : Type 0} {LEN : ℕ} (level : ℕ) (nodes : Slab (NodeOf K LEN)) (id : ℕ) → leaves_of level nodes (id ∷ []) ≡ leaves_at level nodes id
single_leaves level nodes id = append-nil _

pub single_nodes : {K : Type 0} {LEN : ℕ} (level : ℕ) (nodes : Slab (NodeOf K LEN)) (id : ℕ) → nodes_of level nodes (id ∷ []) ≡ nodes_at level nodes id
single_nodes level nodes id = append-nil _

-- what holds of each child between two bounds holds of all
pub parted_all : {K : Type 0} (cmp : K → K → Ordering) (Child : Option K → ℕ → Option K → Type 0) (P : ℕ → Type 0) → ((low : Option K) (id : ℕ) (high : Option K) → Child low id high → P id)
    → (low : Option K) (pairs : List (K × ℕ)) (last : ℕ) (high : Option K) → AreParted cmp Child low pairs last high → AllByRecursion P (map (λ c. c.1) pairs ++ last ∷ [])
parted_all cmp Child P each low [] last high parted = (each low last high parted, tt)
parted_all cmp Child P each low (c ∷ rest) last high parted = (each low c.1 (Some c.0) parted.0, parted_all cmp Child P each (Some c.0) rest last high parted.3)

-- children between the separators, each of which stands as before
pub parted_map : {K : Type 0} (cmp : K → K → Ordering) (A B : Option K → ℕ → Option K → Type 0) (low : Option K) (pairs : List (K × ℕ)) (last : ℕ) (high : Option K)
    → AllByRecursion (λ x. (low high : Option K) → A low x high → B low x high) (map (λ c. c.1) pairs ++ last ∷ [])
    → AreParted cmp A low pairs last high → AreParted cmp B low pairs last high
parted_map cmp A B low [] last high each parted = each.0 low high parted
parted_map cmp A B low (c ∷ rest) last high each parted = grind (arith, parted_map cmp A B (Some c.0) rest last high each.1 parted.3)

module _ {K V : Type 0} {LEN : ℕ} where
  -- what the part reaches is the same in both arenas, but for links
  pub record Agrees (level : ℕ) (a b : TreeArenas K V LEN) (id : ℕ) : Type 0 where
    pub nodes : (n : ℕ) → 1 ≤ times n (nodes_at level a.nodes id) → get b.nodes n ≡ get a.nodes n
    pub leaves : (n : ℕ) → 1 ≤ times n (leaves_at level a.nodes id) → SameArray (get a.leaves n) (get b.leaves n)

  -- several parts agree where what they reach together does
  pub agree_each : (level : ℕ) (a b : TreeArenas K V LEN) (ids : List ℕ) → ((n : ℕ) → 1 ≤ times n (nodes_of level a.nodes ids) → get b.nodes n ≡ get a.nodes n)
      → ((n : ℕ) → 1 ≤ times n (leaves_of level a.nodes ids) → SameArray (get a.leaves n) (get b.leaves n)) → AllByRecursion (λ x. Agrees level a b x) ids
  agree_each level a b ids nodes leaves =
      all_map (λ x both. record { nodes = both.0; leaves = both.1 }) _
      (all_both _ _ _
      (each_part (nodes_at level a.nodes) (λ n. get b.nodes n ≡ get a.nodes n) ids nodes)
      (each_part (leaves_at level a.nodes) (λ n. SameArray (get a.leaves n) (get b.leaves n)) ids leaves))

  -- the node itself is the same, and its children agree
  pub agrees_here : (level : ℕ) (a b : TreeArenas K V LEN) (id : ℕ) → Agrees (suc level) a b id → get b.nodes id ≡ get a.nodes id
  agrees_here level a b id same = same.nodes id (head_here id _)

  pub agrees_below : (level : ℕ) (a b : TreeArenas K V LEN) (id : ℕ) → Agrees (suc level) a b id → AllByRecursion (λ x. Agrees level a b x) (children_of a.nodes id)
  agrees_below level a b id same = agree_each level a b (children_of a.nodes id) (λ n inside. same.nodes n (rw (times-cons n id) (omega arith))) same.leaves

  pub same_leaves : (level : ℕ) (a b : TreeArenas K V LEN) (id : ℕ) → Agrees level a b id → leaves_at level b.nodes id ≡ leaves_at level a.nodes id
  same_leaves zero a b id same = refl
  same_leaves (suc level) a b id same = grind (arith, all_map, agrees_here, agrees_below, flat_map_same, same_leaves level a b)

  pub same_nodes : (level : ℕ) (a b : TreeArenas K V LEN) (id : ℕ) → Agrees level a b id → nodes_at level b.nodes id ≡ nodes_at level a.nodes id
  same_nodes zero a b id same = refl
  same_nodes (suc level) a b id same = grind (arith, flat_map_same, agrees_below, all_map, agrees_here, same_nodes level a b)

  pub same_walk : (level : ℕ) (a b : TreeArenas K V LEN) (id : ℕ) → Agrees level a b id → walk level b id ≡ walk level a id
  same_walk level a b id same = grind (arith, each_of, flat_map_same, same_leaves)

  -- several parts that agree have the same leaves, nodes and walks
  pub record Stay (level : ℕ) (a b : TreeArenas K V LEN) (xs : List ℕ) : Type 0 where
    pub leaves : leaves_of level b.nodes xs ≡ leaves_of level a.nodes xs
    pub nodes : nodes_of level b.nodes xs ≡ nodes_of level a.nodes xs
    pub walks : flat_map (walk level b) xs ≡ flat_map (walk level a) xs

  pub stay : (level : ℕ) (a b : TreeArenas K V LEN) (xs : List ℕ) → AllByRecursion (λ x. Agrees level a b x) xs → Stay level a b xs
  stay level a b xs same = grind (arith, all_map, same_nodes, same_walk, same_leaves, flat_map_same)

module _ {K V : Type 0} {LEN : ℕ} (cmp : K → K → Ordering) where
  pub same_stands : (level : ℕ) (a b : TreeArenas K V LEN) (id : ℕ) → Agrees level a b id → (low high : Option K) → Stands cmp level a low id high → Stands cmp level b low id high
  same_stands zero a b id same low high s = grind (arith, parted_map, agrees_below, all_map, node_kept, agrees_here, head_here)
  same_stands (suc level) a b id same low high s = grind (arith, parted_map, agrees_below, all_map, node_kept, agrees_here, head_here, same_stands level a b)

  pub stands_each : (level : ℕ) (a b : TreeArenas K V LEN) (xs : List ℕ) → AllByRecursion (λ x. Agrees level a b x) xs
      → AllByRecursion (λ x. (low high : Option K) → Stands cmp level a low x high → Stands cmp level b low x high) xs
  stands_each level a b xs same = all_map (λ x. same_stands level a b x) xs same
