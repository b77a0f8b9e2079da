-- What a removal of a range from a tree comes to.
use Rattle.std.proofs.Common.{◌≡◌, ◌⊎◌, ℕ, Some, None, inl, inr, refl, Ordering}
use Rattle.tree_model.proofs.Common.{Bound}
use Rattle.tree_node.proofs.Common.{get, TreeArenas, IsPart, IsOfLevel, IsRetired, Stands, IsRetiredRoot, IsTree, root_at}
use Rattle.tree_cut.specs.Cuts.{CutsUnder}
use Rattle.tree_node.proofs.Steps.{part_after}
use Rattle.tree_node.proofs.Whole.{chain_after, leaves_after, nodes_after, tree_part}
use Rattle.tree_remove.specs.Lowering.{LowersRoot}
use Rattle.tree_remove.proofs.LoweredTrees.{tree_lowered}
use Rattle.tree_root.specs.declared.tree.Tree.{Tree}
use Rattle.tree_root.specs.Trees.{Cuts, IsWhole}
use Rattle.tree_root.proofs.Storing.{part_or_retired}
use Rattle.tree_root.proofs.Taken.{root_level}

module _ {K V : Type 0} {LEN : ℕ} (cmp : K → K → Ordering) (low high : Bound K) (old new : Tree K V LEN) where
  -- without a root there is no key
  pub none_cut : IsWhole cmp old → new ≡ old → old.root ≡ None → Cuts cmp low high old new 0
  none_cut whole same none = record {
    whole = rw same whole;
    pairs = rw (same, none) refl;
    counted = rw (same, none) refl;
    settled = rw (same, none) tt;
  }

  module _ (id level : ℕ) (was : old.root ≡ Some (root_at id level)) (whole : IsWhole cmp old) (mid : TreeArenas K V LEN) (gone : ℕ) (cuts : CutsUnder cmp low high level old.arenas mid id gone) where
    here : IsTree cmp old.arenas (Some (root_at id level))
    here = rw was at whole

    after : IsPart cmp level old.arenas id → IsPart cmp level mid id
    after part = part_after cmp level old.arenas mid id part (cuts.stands None None part.stands) cuts.replaces

    kind_before : IsOfLevel level (get old.arenas.nodes id)
    kind_before = by_top here.top.1
      where
        by_top : (Stands cmp level old.arenas None id None ⊎ IsRetiredRoot old.arenas id level) → IsOfLevel level (get old.arenas.nodes id)
        by_top (inl stands) = root_level level (tree_part old.arenas id level here stands)
        by_top (inr gone) = rw gone.0 gone.2

    -- a root whose pairs were cut is a part still, or retired as before
    pub still : (IsRetired level old.arenas id → mid ≡ old.arenas) → (IsPart cmp level mid id ⊎ IsRetired level mid id) × IsOfLevel level (get mid.nodes id)
    still kept = by_root (part_or_retired cmp old.arenas id level here)
      where
        by_root : (IsPart cmp level old.arenas id ⊎ IsRetired level old.arenas id) → (IsPart cmp level mid id ⊎ IsRetired level mid id) × IsOfLevel level (get mid.nodes id)
        by_root (inl part) = (inl (after part), root_level level (after part))
        by_root (inr gone) = rw (kept gone) (inr gone, kind_before)

    pub was_cut : LowersRoot cmp level mid new.arenas id new.root → Cuts cmp low high old new gone
    was_cut lowers = record {
      whole = tree_lowered mid new.arenas id level new.root (nodes_after old.arenas mid id level here cuts.replaces) (leaves_after old.arenas mid id level here cuts.replaces) (chain_after old.arenas mid id level here cuts.replaces) lowers;
      pairs = rw (was, lowers.pairs) cuts.pairs;
      counted = rw (was, lowers.pairs) cuts.counted;
      settled = lowers.stands;
    }
