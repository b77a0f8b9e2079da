-- What a removal from a tree comes to.
use Rattle.std.proofs.Common.{◌≡◌, ◌⊎◌, ℕ, zero, suc, ◌<◌, ◌≤◌, Bool, true, false, [], Option, Some, None, inl, inr, refl, sym, ap, ◌∙◌, arith, Ordering}
use Rattle.tree_model.proofs.Common.{pair_at}
use Rattle.tree_array.specs.declared.answers.RemoveResult.{RemoveResult}
use Rattle.tree_array.specs.declared.answers.RemoveResult.TheVariants.{Success, Retired, Fail}
use Rattle.tree_node.proofs.Common.{get, TreeArenas, IsPart, IsOfLevel, IsRetired, Stands, leaves_at, walk, spare, IsRetiredRoot, IsTree, walk_under, root_at}
use Rattle.tree_node.specs.declared.node.Root.{Root}
use Rattle.tree_remove.specs.Lowering.{LowersRoot}
use Rattle.tree_remove.specs.Removes.{RemovesUnder, TakesOut, removal_told}
use Rattle.tree_remove.specs.Takes.{IsEntry, stored_at}
use Rattle.tree_node.specs.Whole.{spare_under}
use Rattle.tree_node.proofs.Steps.{part_after}
use Rattle.tree_node.proofs.Whole.{chain_after, leaves_after, nodes_after, spare_standing, spare_unchanged, tree_after, tree_part, tree_unchanged, walk_unchanged}
use Rattle.tree_node.proofs.Standing.{no_children}
use Rattle.tree_split.proofs.Tests.{packed_unchanged}
use Rattle.tree_remove.proofs.LoweredTrees.{spare_lowered, tree_lowered}
use Rattle.tree_root.specs.declared.tree.Tree.{Tree}
use Rattle.tree_root.specs.Trees.{IsStored, IsStoredUnder, IsWhole, Takes, pairs_of}
use Rattle.tree_remove.specs.declared.entries.EntryPlace.{EntryPlace}

-- the root of a part has the kind of its level
pub root_level : {K V : Type 0} {LEN : ℕ} {cmp : K → K → Ordering} {a : TreeArenas K V LEN} {id : ℕ} (level : ℕ) → IsPart cmp level a id → IsOfLevel level (get a.nodes id)
root_level zero part = tt
root_level (suc level) part = rw part.stands.here part.stands.kind

module _ {K V : Type 0} {LEN : ℕ} (cmp : K → K → Ordering) (Says : V → Bool → Type 0) (old new : Tree K V LEN) (key : K) where
  -- without a root there is no key
  pub none_taken : IsWhole cmp old → new ≡ old → old.root ≡ None → Takes cmp Says old new key false
  none_taken whole same none = record {
    whole = rw same whole;
    pairs = rw (same, none) ((λ pair found. absurd (cc)), refl);
    spare = inl (rw same (omega arith));
    kept = λ so. rw same (refl, refl, refl);
  }

  module _ (id level : ℕ) (was : old.root ≡ Some (root_at id level)) (whole : IsWhole cmp old) where
    here : IsTree cmp old.arenas (Some (root_at id level))
    here = rw was at whole

    -- nothing was removed, and nothing has changed
    pub kept : new.root ≡ old.root → RemovesUnder cmp Says level old.arenas new.arenas id Fail key → Takes cmp Says old new key false
    kept root r = record {
      whole = rw root (tree_unchanged old.arenas new.arenas old.root r.leaves whole);
      pairs = (rw was r.pairs.0, rw root (walk_unchanged old.arenas new.arenas old.root r.leaves));
      spare = inl (omega (arith, ap (λ r. spare_under new.arenas r) root, spare_unchanged old.arenas new.arenas old.root r.leaves));
      kept = λ so. rw root (refl, spare_unchanged old.arenas new.arenas old.root r.leaves, packed_unchanged cmp old.arenas new.arenas old.root r.leaves);
    }

    -- the pair went, and then the root was lowered
    module _ (mid : TreeArenas K V LEN) (result : RemoveResult) (gone : TakesOut cmp Says (walk level old.arenas id) key (walk level mid id)) (r : RemovesUnder cmp Says level old.arenas mid id result key)
        (spare_mid : (spare_under old.arenas (Some (root_at id level)) ≤ spare_under mid (Some (root_at id level))) ⊎ (leaves_at level mid.nodes id ≡ [])) (lowers : LowersRoot cmp level mid new.arenas id new.root) where
      pub lowered : Takes cmp Says old new key true
      lowered = record {
        whole = tree_lowered mid new.arenas id level new.root (nodes_after old.arenas mid id level here r.replaces) (leaves_after old.arenas mid id level here r.replaces) (chain_after old.arenas mid id level here r.replaces) lowers;
        pairs = (gone.pair, rw was gone.was, gone.said, rw (was, lowers.pairs) gone.left);
        spare = elim spare_mid [
          | inl more ↦ inl (rw (was, spare_lowered cmp mid new.arenas id level new.root lowers) more)
          | inr none ↦ inr (lowers.leaves_under ∙ none)
        ];
        kept = λ so. absurd (cc);
      }

    -- the spare of the part after the removal
    pub spare_kept : (mid : TreeArenas K V LEN) → Stands cmp level old.arenas None id None → Stands cmp level mid None id None → spare level old.arenas id ≤ spare level mid id
        → spare_under old.arenas (Some (root_at id level)) ≤ spare_under mid (Some (root_at id level))
    spare_kept mid before after spares = rw (spare_standing cmp old.arenas id level before, spare_standing cmp mid id level after) spares

    -- a retired root has no leaf
    pub leaves_gone : (mid : TreeArenas K V LEN) → IsRetired level mid id → leaves_at level mid.nodes id ≡ []
    leaves_gone mid retired = by_level level here.top.0 retired
      where
        by_level : (level : ℕ) → 0 < level → IsRetired level mid id → leaves_at level mid.nodes id ≡ []
        by_level zero deep retired = absurd (omega (arith, deep))
        by_level (suc level) deep retired = rw (no_children (get mid.nodes id) retired).1 refl

    -- a root from which a pair went stands
    pub stood : (pair : K × V) → pair_at cmp (walk level old.arenas id) key ≡ Some pair → Stands cmp level old.arenas None id None
    stood pair found = by_top here.top.1
      where
        by_top : (Stands cmp level old.arenas None id None ⊎ IsRetiredRoot old.arenas id level) → Stands cmp level old.arenas None id None
        by_top (inl stands) = stands
        by_top (inr gone) =
            let empty : walk level old.arenas id ≡ [] = rw (gone.0, (no_children (get old.arenas.nodes id) gone.1).1) refl in
            absurd (let both : None ≡ Some pair = rw empty at found in cc)

    -- after a pair went that wasn't the last one, the root stands
    module _ (mid : TreeArenas K V LEN) (r : RemovesUnder cmp Says level old.arenas mid id Success key) where
      before : Stands cmp level old.arenas None id None
      before = stood r.pairs.pair r.pairs.was

      pub still_part : IsPart cmp level mid id
      still_part = part_after cmp level old.arenas mid id (tree_part old.arenas id level here before) (r.leaves None None before) r.replaces

      pub taken : LowersRoot cmp level mid new.arenas id new.root → Takes cmp Says old new key true
      taken lowers = lowered mid Success r.pairs r (inl (spare_kept mid before still_part.stands r.spare)) lowers

    -- it went, and the root stays
    taken_beside : new.root ≡ old.root → RemovesUnder cmp Says level old.arenas new.arenas id Success key → Takes cmp Says old new key true
    taken_beside root r =
        let still : new.root ≡ Some (root_at id level) = root ∙ was in
        let part = still_part new.arenas r in
        record {
          whole = rw still (tree_after old.arenas new.arenas id level here r.replaces (here.top.0, inl part.stands));
          pairs = (r.pairs.pair, rw was r.pairs.was, r.pairs.said, rw (was, still) r.pairs.left);
          spare = inl (rw (was, still) (spare_kept new.arenas (before new.arenas r) part.stands r.spare));
          kept = λ so. absurd (cc);
        }

    -- either, by the answer
    pub told_taken : new.root ≡ old.root → (removed : Bool) → RemovesUnder cmp Says level old.arenas new.arenas id (removal_told removed) key → Takes cmp Says old new key removed
    told_taken root true r = taken_beside root r
    told_taken root false r = kept root r

    -- after the last one it is retired
    pub last_taken : (mid : TreeArenas K V LEN) → RemovesUnder cmp Says level old.arenas mid id Retired key → LowersRoot cmp level mid new.arenas id new.root → Takes cmp Says old new key true
    last_taken mid r lowers = lowered mid Retired r.pairs.0 r (inr (leaves_gone mid r.leaves.0)) lowers

    -- a pair was taken out that the condition doesn't keep
    module _ (mid : TreeArenas K V LEN) (pair : K × V) (found : pair_at cmp (walk level old.arenas id) key ≡ Some pair) (sure : (v : V) → Says v false → ⊥) where
      -- the root is a part still, or retired
      pub root_after : (result : RemoveResult) → RemovesUnder cmp Says level old.arenas mid id result key → (IsPart cmp level mid id ⊎ IsRetired level mid id) × IsOfLevel level (get mid.nodes id)
      root_after Success r = (inl (still_part mid r), root_level level (still_part mid r))
      root_after Retired r = (inr r.leaves.0, r.leaves.1)
      root_after Fail r = absurd (sure pair.1 (r.pairs.0 pair found))

      pub pair_taken : (result : RemoveResult) → RemovesUnder cmp Says level old.arenas mid id result key → LowersRoot cmp level mid new.arenas id new.root → Takes cmp Says old new key true
      pair_taken Success r lowers = taken mid r lowers
      pair_taken Retired r lowers = last_taken mid r lowers
      pair_taken Fail r lowers = absurd (sure pair.1 (r.pairs.0 pair found))

-- what a removal comes to is told of the arenas and the root alone
pub same_taken : {K V : Type 0} {LEN : ℕ} (cmp : K → K → Ordering) (Says : V → Bool → Type 0) (old again new : Tree K V LEN) (key : K) (removed : Bool) → again.arenas ≡ old.arenas → again.root ≡ old.root
    → Takes cmp Says again new key removed → Takes cmp Says old new key removed
same_taken cmp Says old again new key removed arenas root takes = record {
  whole = takes.whole;
  pairs = rw (arenas, root) at takes.pairs;
  spare = rw (arenas, root) at takes.spare;
  kept = rw (arenas, root) at takes.kept;
}

-- a place has one pair
module _ {K V : Type 0} {LEN : ℕ} {cmp : K → K → Ordering} (level : ℕ) (a : TreeArenas K V LEN) (id leaf slot : ℕ) (pair taken : K × V) (entry : IsEntry cmp level a id leaf slot pair) (stored : stored_at (get a.leaves leaf) slot ≡ Some taken) where
  pub same_stored : taken ≡ pair
  same_stored = let both : Some taken ≡ Some pair = sym stored ∙ entry.stored in cc

  pub found_again : pair_at cmp (walk level a id) taken.0 ≡ Some taken
  found_again = rw same_stored entry.found

-- a pair that is stored is found at its key
pub stored_found : {K V : Type 0} {LEN : ℕ} (cmp : K → K → Ordering) (tree : Tree K V LEN) (place : EntryPlace) (pair : K × V) → IsStored cmp tree place pair → pair_at cmp (pairs_of tree) pair.0 ≡ Some pair
stored_found cmp tree place pair stored = by_root tree.root stored
  where
    by_root : (root : Option Root) → IsStoredUnder cmp tree.arenas root place pair → pair_at cmp (walk_under tree.arenas root) pair.0 ≡ Some pair
    by_root None stored = absurd stored
    by_root (Some root) stored = stored.found
