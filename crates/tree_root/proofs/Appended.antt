-- What an append to the last leaf comes to.
use Rattle.std.proofs.Common.{◌≡◌, ◌⊎◌, ℕ, true, false, Option, Some, None, Result, inl, inr, refl, sym, ◌∙◌}
use Rattle.std.specs.List.{AllByRecursion}
use Rattle.std.specs.declared.cmp.Ordering.{Ordering}
use Rattle.std.specs.declared.cmp.Ordering.TheVariants.{Less}
use Rattle.std.specs.Cmp.{IsTotalOrder}
use Rattle.slab.specs.Slab.{get}
use Rattle.tree_insert.specs.Appends.{AppendsUnder, IsLastFor, IsLastLeaf}
use Rattle.tree_insert.proofs.Edges.{no_last}
use Rattle.tree_array.specs.declared.answers.StoreResult.{StoreResult}
use Rattle.tree_node.proofs.Ways.{part_not_retired}
use Rattle.tree_insert.specs.Inserts.{InsertsUnder, asks_split}
use Rattle.tree_node.specs.Arenas.{TreeArenas}
use Rattle.tree_node.specs.declared.node.Root.{Root}
use Rattle.tree_node.specs.Tree.{Stands}
use Rattle.tree_node.specs.Whole.{IsRetiredRoot, IsTree, root_at}
use Rattle.tree_node.proofs.Whole.{tree_part}
use Rattle.tree_root.specs.Lasts.{IsLast, IsLastUnder}
use Rattle.tree_root.specs.declared.tree.Tree.{Tree}
use Rattle.tree_root.specs.Trees.{IsWhole, Stores, pairs_of}
use Rattle.tree_root.proofs.Storing.{stored_under}

module _ {K V : Type 0} {LEN : ℕ} (cmp : K → K → Ordering) (old : Tree K V LEN) (leaf : ℕ) (key : K) where
  -- the root, under which the leaf is the last one for the key
  pub record LastUnderRoot : Type 0 where
    pub level : ℕ
    pub id : ℕ
    pub root : old.root ≡ Some (root_at id level)
    pub for : IsLastFor cmp level old.arenas id leaf key

  pub last_for_root : (id level : ℕ) → old.root ≡ Some (root_at id level) → IsWhole cmp old → IsLast old leaf → AllByRecursion (λ p. cmp p.0 key ≡ Less) (pairs_of old) → IsLastFor cmp level old.arenas id leaf key
  last_for_root id level is whole last smaller = by_top tree.top.1
    where
      tree : IsTree cmp old.arenas (Some (root_at id level))
      tree = rw is at whole

      here : IsLastLeaf level old.arenas id leaf
      here = rw is at last

      by_top : (Stands cmp level old.arenas None id None ⊎ IsRetiredRoot old.arenas id level) → IsLastFor cmp level old.arenas id leaf key
      by_top (inl stands) = record { deep = tree.top.0; part = tree_part old.arenas id level tree stands; last = here; beyond = rw is at smaller }
      by_top (inr gone) = let edge = (rw gone.0 at here).0 in absurd (no_last (get old.arenas.nodes id) gone.1 edge.0 edge.1)

  pub last_under : IsWhole cmp old → IsLast old leaf → AllByRecursion (λ p. cmp p.0 key ≡ Less) (pairs_of old) → LastUnderRoot
  last_under whole last smaller = by_root old.root refl
    where
      by_root : (root : Option Root) → old.root ≡ root → LastUnderRoot
      by_root None is = absurd (rw is at last)
      by_root (Some root) is = record { level = root.level; id = root.id; root = is; for = last_for_root root.id root.level is whole last smaller }

  -- the leaf is the last one still
  pub last_still : (arenas : TreeArenas K V LEN) (val : V) (id level : ℕ) → old.root ≡ Some (root_at id level) → AppendsUnder cmp level old.arenas arenas id leaf key val → IsLastUnder arenas old.root leaf
  last_still arenas val id level root appends = rw root appends.last

  module _ (o : IsTotalOrder cmp) (new : Tree K V LEN) (val : V) (id level : ℕ) (root : old.root ≡ Some (root_at id level)) (whole : IsWhole cmp old) (for : IsLastFor cmp level old.arenas id leaf key) (same : new.root ≡ old.root) where
    -- the pair is stored in the tree, or refused, as under its root
    pub stored_last : (result : Result (StoreResult K V) (K × V)) → asks_split result ≡ false → InsertsUnder cmp true level old.arenas new.arenas id result key val → Stores cmp true old new key val result
    stored_last result no_split inserts =
        stored_under cmp true old new key val id level result root (same ∙ root) whole (λ part. inserts)
        (λ retired. absurd (part_not_retired o old.arenas key level for.deep id for.part retired))
        o no_split
