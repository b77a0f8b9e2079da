-- How many pairs a tree has at most.
use Rattle.std.proofs.Common.{◌≡◌, ◌⊎◌, ℕ, ◌+◌, ◌*◌, ◌^◌, ◌<◌, ◌≤◌, [], length, Option, Some, None, inl, inr, refl, ap, arith, Ordering}
use Rattle.tree_array.proofs.Common.{IsLen}
use Rattle.tree_node.proofs.Common.{get, TreeArenas, Stands, leaves_at, walk, IsRetiredRoot, IsTree, walk_under}
use Rattle.tree_node.specs.declared.node.Root.{Root}
use Rattle.std.proofs.Math.Nat.{mul-le-mul_left}
use Rattle.slab.specs.Slab.{slab_len}
use Rattle.tree_leaf.proofs.Pigeonhole.{once_fits}
use Rattle.tree_node.specs.Whole.{depth_of}
use Rattle.tree_node.proofs.Bounds.{entries_few, walk_few}
use Rattle.tree_node.proofs.Standing.{no_children}

module _ {K V : Type 0} {LEN : ℕ} (cmp : K → K → Ordering) (a : TreeArenas K V LEN) where
  retired_empty : (id level : ℕ) → IsRetiredRoot a id level → walk level a id ≡ []
  retired_empty id level gone = rw (gone.0, (no_children (get a.nodes id) gone.1).1) refl

  -- no more than its leaves have slots
  pub pairs_few : (root : Option Root) → IsTree cmp a root → length (walk_under a root) ≤ LEN * slab_len a.leaves
  pairs_few None tree = omega arith
  pairs_few (Some root) tree = by_top tree.top.1
    where
      by_top : (Stands cmp root.level a None root.id None ⊎ IsRetiredRoot a root.id root.level) → length (walk root.level a root.id) ≤ LEN * slab_len a.leaves
      by_top (inl s) =
          omega (
            arith,
            entries_few cmp a root.level None root.id None s,
            mul-le-mul_left LEN (once_fits a.leaves (leaves_at root.level a.nodes root.id) (λ n. omega (arith, tree.leaves_once n))),
          )
      by_top (inr gone) = omega (arith, ap length (retired_empty root.id root.level gone))

  -- no more than a tree of its depth can have
  pub pairs_bound : (root : Option Root) → IsTree cmp a root → length (walk_under a root) ≤ LEN * (LEN + 1) ^ depth_of root
  pairs_bound None tree = omega arith
  pairs_bound (Some root) tree = by_top tree.top.1
    where
      by_top : (Stands cmp root.level a None root.id None ⊎ IsRetiredRoot a root.id root.level) → length (walk root.level a root.id) ≤ LEN * (LEN + 1) ^ root.level
      by_top (inl s) = walk_few cmp a root.level None root.id None s
      by_top (inr gone) = omega (arith, ap length (retired_empty root.id root.level gone))

-- so many slots are counted in 128 bits
pub slots_small : (len leaves : ℕ) → IsLen len → leaves < 2 ^ 64 → len * leaves < 2 ^ 127
slots_small len leaves (inl seven) few = rw seven (omega (arith, few))
slots_small len leaves (inr fifteen) few = rw fifteen (omega (arith, few))
