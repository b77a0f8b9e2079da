-- A whole tree whose root stands under a new one.
use Rattle.tree_insert.proofs.Common.{IsTree, Ordering, RaisesRoot, Some, TreeArenas, [], append-nil, arith, inl, leaves_at, root_at, suc, ℕ}

module _ {K V : Type 0} {LEN : ℕ} {cmp : K → K → Ordering} where
  -- it is a whole tree with one level more
  pub tree_raised : (a b : TreeArenas K V LEN) (root id depth : ℕ) → IsTree cmp a (Some (root_at root depth)) → RaisesRoot cmp depth a b root id → IsTree cmp b (Some (root_at id (suc depth)))
  tree_raised a b root id depth tree r = record {
    top = (omega arith, inl r.stands);
    nodes_once = λ n. omega (arith, tree.nodes_once n, r.nodes_counted n);
    leaves_once = λ n. omega (arith, tree.leaves_once n, r.leaves_counted n);
    chain = rw (append-nil (leaves_at (suc depth) b.nodes id)) at (r.chained [] [] (rw (append-nil (leaves_at depth a.nodes root)) tree.chain));
  }
