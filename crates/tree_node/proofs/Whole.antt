-- What keeps a whole tree.
use Rattle.std.proofs.Common.{◌≡◌, ℕ, [], ◌∷◌, Option, Some, None, is_some, inl, inr, sym, ap, ◌∙◌, arith, Ordering, append-nil}
use Rattle.tree_node.proofs.Common.{root_at, IsChain, IsPart, IsTree, Replaces, Stands, TreeArenas, Unchanged, leaves_at, leaves_under, nat_tests, nodes_at, same_leaves, same_nodes, same_stands, same_walk, single_leaves, single_nodes, spare, times, uses, uses_same, walk_under, IsTop, nodes_under, spare_under, Root}
use Rattle.tree_node.proofs.Bare.{has_leaf}
use Rattle.tree_node.proofs.Spares.{same_spare}
use Rattle.tree_node.proofs.Unchanged.{chain_same, unchanged_agrees}

module _ {K V : Type 0} {LEN : ℕ} {cmp : K → K → Ordering} where
  -- a tree whose root stands is a part
  pub tree_part : (a : TreeArenas K V LEN) (id level : ℕ) → IsTree cmp a (Some (root_at id level)) → Stands cmp level a None id None → IsPart cmp level a id
  tree_part a id level tree stands = record {
    stands = stands;
    nodes_once = λ n. omega (arith, tree.nodes_once n);
    front = [];
    back = [];
    chain = rw (append-nil (leaves_at level a.nodes id)) tree.chain;
  }

  -- the root's part was replaced: each number in use is reached once, and the leaves are the chain
  module _ (a b : TreeArenas K V LEN) (id level : ℕ) (tree : IsTree cmp a (Some (root_at id level))) (r : Replaces level a b (id ∷ []) (id ∷ [])) where
    pub nodes_after : (n : ℕ) → times n (nodes_at level b.nodes id) ≡ uses b.nodes n
    nodes_after n = omega (arith, tree.nodes_once n, r.nodes_counted n, ap (times n) (single_nodes level a.nodes id), ap (times n) (single_nodes level b.nodes id))

    pub leaves_after : (n : ℕ) → times n (leaves_at level b.nodes id) ≡ uses b.leaves n
    leaves_after n = omega (arith, tree.leaves_once n, r.leaves_counted n, ap (times n) (single_leaves level a.nodes id), ap (times n) (single_leaves level b.nodes id))

    pub chain_after : IsChain b.leaves (leaves_at level b.nodes id)
    chain_after = grind (arith, single_leaves, append-nil, r.chained [] [])

    pub tree_after : IsTop cmp b (Some (root_at id level)) → IsTree cmp b (Some (root_at id level))
    tree_after top = record { top = top; nodes_once = nodes_after; leaves_once = leaves_after; chain = chain_after }

  -- what stands under every number is what it was
  pub tree_unchanged : (a b : TreeArenas K V LEN) (root : Option Root) → Unchanged a b → IsTree cmp a root → IsTree cmp b root
  tree_unchanged a b root same tree = record {
    top = top_kept root tree.top;
    nodes_once = λ n. rw (kept root).0 (tree.nodes_once n ∙ sym (uses_same a.nodes b.nodes n (ap is_some (same.nodes n))));
    leaves_once = λ n. rw (kept root).1 (tree.leaves_once n ∙ sym (uses_same a.leaves b.leaves n (ap is_some (same.leaves n))));
    chain = rw (kept root).1 (chain_same a.leaves b.leaves same.leaves _ tree.chain);
  }
    where
      kept : (root : Option Root) → (nodes_under b.nodes root ≡ nodes_under a.nodes root) × (leaves_under b.nodes root ≡ leaves_under a.nodes root)
      kept root = grind (arith, unchanged_agrees, same_nodes, same_leaves)

      top_kept : (root : Option Root) → IsTop cmp a root → IsTop cmp b root
      top_kept None top = tt
      top_kept (Some root) (deep, inl s) = (deep, inl (same_stands cmp root.level a b root.id (unchanged_agrees root.level a b same root.id) None None s))
      top_kept (Some root) (deep, inr retired) = (deep, inr (retired.0, rw (same.nodes root.id) retired.1, rw (same.nodes root.id) retired.2))

module _ {K V : Type 0} {LEN : ℕ} where
  pub walk_unchanged : (a b : TreeArenas K V LEN) (root : Option Root) → Unchanged a b → walk_under b root ≡ walk_under a root
  walk_unchanged a b root same = grind (arith, nat_tests, same_walk, unchanged_agrees)

  pub spare_unchanged : (a b : TreeArenas K V LEN) (root : Option Root) → Unchanged a b → spare_under b root ≡ spare_under a root
  spare_unchanged a b root same = grind (arith, nat_tests, unchanged_agrees, same_leaves, same_spare)

  -- the spare of a tree whose root stands is that of its part
  pub spare_standing : (cmp : K → K → Ordering) (a : TreeArenas K V LEN) (id level : ℕ) → Stands cmp level a None id None → spare_under a (Some (root_at id level)) ≡ spare level a id
  spare_standing cmp a id level stands = grind (arith, nat_tests, has_leaf cmp a level None id None stands)
