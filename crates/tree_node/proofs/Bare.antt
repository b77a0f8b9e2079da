-- A tree without leaves, and one with a single leaf.
use Rattle.std.proofs.Common.{◌≡◌, ◌≢◌, ℕ, zero, suc, ◌<◌, ◌≤◌, List, [], ◌∷◌, length, length-append, Option, Some, None, IsSome, inl, refl, ap, arith, append-nil, slice_index_or, Ordering}
use Rattle.tree_node.proofs.Common.{AreParted, HasKind, IsLen, IsRetiredNode, IsTree, LeafOf, NodeOf, Slab, Stands, TreeArenas, flat_map-append, get, in_order, keyed, last_free, leaves_at, leaves_under, no_children, node_made, none_here, one_here, times, times-cons, times-nil, unbounded, uses, uses_none, uses_some, nat_tests, IsEmpty, HasNoOther, HasOnly, Root}

-- a number that isn't in use
free_number : {T : Type 0} (arena : Slab T) (n : ℕ) → uses arena n ≡ 0 → get arena n ≡ None
free_number arena n unused = grind (arith, uses_some arena n)

module _ {K V : Type 0} {LEN : ℕ} (cmp : K → K → Ordering) (a : TreeArenas K V LEN) where
  pub parted_last : (Child : Option K → ℕ → Option K → Type 0) (low : Option K) (pairs : List (K × ℕ)) (last : ℕ) (high : Option K) → AreParted cmp Child low pairs last high → (below : Option K) × Child below last high
  parted_last Child low [] last high parted = (low, parted)
  parted_last Child low (c ∷ rest) last high parted = parted_last Child (Some c.0) rest last high parted.3

  -- a part that stands has a leaf
  pub has_leaf : (level : ℕ) (low : Option K) (id : ℕ) (high : Option K) → Stands cmp level a low id high → 0 < length (leaves_at level a.nodes id)
  has_leaf zero low id high s = omega arith
  has_leaf (suc level) low id high s = grind (arith, nat_tests, flat_map-append, append-nil, last_free, length-append, has_leaf level None s.last None (last_free cmp level a low id high s))

module _ {K V : Type 0} {LEN : ℕ} {cmp : K → K → Ordering} (a : TreeArenas K V LEN) where
  -- a tree without leaves has no number in use but that of a retired leaf node
  pub bare_leaves : (root : Option Root) → IsTree cmp a root → leaves_under a.nodes root ≡ [] → (n : ℕ) → get a.leaves n ≡ None
  bare_leaves root tree bare n = free_number a.leaves n (omega (arith, tree.leaves_once n, ap (times n) bare, times-nil n))

  pub bare_nodes : (n : ℕ) → IsTree cmp a None → get a.nodes n ≡ None
  bare_nodes n tree = free_number a.nodes n (omega (arith, tree.nodes_once n, times-nil n))

  retired_top : (root : Root) → IsTree cmp a (Some root) → leaves_at root.level a.nodes root.id ≡ [] → (root.level ≡ 1) × IsRetiredNode (get a.nodes root.id)
  retired_top root tree bare = grind (arith, nat_tests, has_leaf)

  pub no_other : (root : Root) → IsTree cmp a (Some root) → leaves_at root.level a.nodes root.id ≡ [] → HasNoOther a root.id
  no_other root tree bare = grind (arith, nat_tests, times-cons, none_here, bare_leaves, no_children, times-nil, retired_top, free_number)

pub some_slots : (len : ℕ) → IsLen len → 1 ≤ len
some_slots len is_len = omega arith

-- a leaf node over one leaf
pub over_one : {K V : Type 0} {LEN : ℕ} (cmp : K → K → Ordering) (a : TreeArenas K V LEN) (id : ℕ) (node : NodeOf K LEN) (last : ℕ) → get a.nodes id ≡ Some node → HasKind 0 node → (keyed node).entries ≡ [] → unbounded node ≡ Some last
    → Stands cmp 0 a None last None → Stands cmp 1 a None id None
over_one cmp a id node last here kind no_keyed last_is leaf = node_made here kind last_is no_keyed (omega arith) leaf

-- a leaf node over one leaf, and nothing else
module _ {K V : Type 0} {LEN : ℕ} (cmp : K → K → Ordering) (a : TreeArenas K V LEN) (id : ℕ) (node : NodeOf K LEN) (last : ℕ) (leaf : LeafOf K V LEN) (key : K) (val : V)
    (here : get a.nodes id ≡ Some node) (kind : HasKind 0 node) (no_keyed : (keyed node).entries ≡ []) (last_is : unbounded node ≡ Some last)
    (leaf_here : get a.leaves last ≡ Some leaf) (array : leaf.array ≡ in_order ((key, val) ∷ [])) (no_prev : leaf.prev ≡ None) (no_next : leaf.next ≡ None) (some : 1 ≤ LEN)
    (other_nodes : (n : ℕ) → n ≢ id → get a.nodes n ≡ None) (other_leaves : (n : ℕ) → n ≢ last → get a.leaves n ≡ None) where
  leaves_are : leaves_at 1 a.nodes id ≡ last ∷ []
  leaves_are = rw (here, no_keyed, last_is) refl

  alone : {T : Type 0} (arena : Slab T) (only : ℕ) → IsSome (get arena only) → ((n : ℕ) → n ≢ only → get arena n ≡ None) → (n : ℕ) → times n (only ∷ []) ≡ uses arena n
  alone arena only there others n = grind (arith, nat_tests, times-cons n only [], times-nil n, one_here n only, none_here n only, uses_some arena n, uses_none arena n)

  stands : Stands cmp 1 a None id None
  stands = grind (arith, nat_tests)

  pub has_only : HasOnly cmp a id key val
  has_only = record {
    tree = record {
      top = (omega arith, inl stands);
      nodes_once = λ n. rw (here, no_keyed, last_is) (alone a.nodes id (rw here refl) other_nodes n);
      leaves_once = λ n. rw leaves_are (alone a.leaves last (rw leaf_here refl) other_leaves n);
      chain = rw leaves_are (record { once = λ n. omega (arith, alone a.leaves last (rw leaf_here refl) other_leaves n); linked = rw leaf_here ((no_prev, no_next), tt) });
    };
    pairs = rw (leaves_are, leaf_here, array) refl;
    spare = rw (leaves_are, leaf_here, array) (grind (arith, nat_tests));
  }

-- arenas without numbers in use hold the tree without a root
pub empty_tree : {K V : Type 0} {LEN : ℕ} (cmp : K → K → Ordering) (a : TreeArenas K V LEN) → IsEmpty a → IsTree cmp a None
empty_tree cmp a empty = grind (arith, nat_tests, uses_none, times-nil, slice_index_or)
