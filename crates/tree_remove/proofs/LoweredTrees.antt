-- What a whole tree is when its root has given its place to what was left of it.
use Rattle.tree_remove.proofs.Common.{IsChain, IsRootIfAny, IsTree, LowersRoot, None, Option, Ordering, Root, Some, TreeArenas, ap, arith, inl, inr, leaves_at, nodes_at, refl, root_at, times, uses, ℕ}
use Rattle.tree_remove.proofs.Common.{◌≡◌}
use Rattle.tree_node.specs.Whole.{IsTop, spare_under}

module _ {K V : Type 0} {LEN : ℕ} {cmp : K → K → Ordering} where
  -- it is a whole tree still
  pub tree_lowered : (a b : TreeArenas K V LEN) (id level : ℕ) (result : Option Root)
      → ((n : ℕ) → times n (nodes_at level a.nodes id) ≡ uses a.nodes n) → ((n : ℕ) → times n (leaves_at level a.nodes id) ≡ uses a.leaves n)
      → IsChain a.leaves (leaves_at level a.nodes id) → LowersRoot cmp level a b id result → IsTree cmp b result
  tree_lowered a b id level result nodes leaves chain r = record {
    top = as_top result r.stands;
    nodes_once = λ n. omega (arith, nodes n, r.nodes_counted n);
    leaves_once = λ n. omega (arith, leaves n, ap (times n) r.leaves_under, ap (λ slab. uses slab n) r.leaves);
    chain = rw (r.leaves, r.leaves_under) chain;
  }
    where
      as_top : (result : Option Root) → IsRootIfAny cmp b result → IsTop cmp b result
      as_top None root = tt
      as_top (Some root) top = (top.0, elim top.1 [ inl part ↦ inl part.0.stands | inr gone ↦ inr gone ])

module _ {K V : Type 0} {LEN : ℕ} where
  -- a root that gives its place to another keeps the spare
  pub spare_lowered : (cmp : K → K → Ordering) (a b : TreeArenas K V LEN) (id level : ℕ) (result : Option Root)
      → LowersRoot cmp level a b id result → spare_under b result ≡ spare_under a (Some (root_at id level))
  spare_lowered cmp a b id level result r = rw (r.leaves_under, r.leaves) refl
