-- An index of which one value was changed.
use Rattle.std.proofs.Common.{◌≡◌, ℕ, List, Bool, true, false, Option, Some, None, Result, Ok, Err, MatchOption, refl}
use Rattle.std.specs.declared.cmp.Ordering.{Ordering}
use Rattle.tree_model.specs.Pairs.{put}
use Rattle.tree_root.specs.declared.tree.Tree.{Tree}
use Rattle.tree_root.specs.Trees.{KeepsKeys, pairs_of}
use Rattle.tree_index.specs.Index.{index_of, with_value}

module _ {K V : Type 0} {LEN : ℕ} (cmp : K → K → Ordering) (old new : Tree K V LEN) (keeps : KeepsKeys cmp old new) where
  -- the index has other pairs, and all else stays
  index_with : (pairs : List (K × V)) → pairs_of new ≡ pairs → index_of cmp new ≡ record (index_of cmp old) { pairs = pairs }
  index_with pairs are = rw (are, keeps.shape.0, keeps.shape.1, keeps.shape.2) refl

  -- what a call says of the tree, said of the index
  pub changed : (P : K × V → V → Type 0) (result : Bool) (found : Option (K × V)) → MatchOption found ((result ≡ false) × (pairs_of new ≡ pairs_of old)) (λ pair. (result ≡ true) × (val : V) × P pair val × (pairs_of new ≡ put cmp (pairs_of old) pair.0 val))
      → MatchOption found ((result ≡ false) × (index_of cmp new ≡ index_of cmp old)) (λ pair. (result ≡ true) × (val : V) × P pair val × (index_of cmp new ≡ with_value cmp (index_of cmp old) pair.0 val))
  changed P result None said = (said.0, index_with (pairs_of old) said.1)
  changed P result (Some pair) said = (said.0, said.1, said.2, index_with _ said.3)

  pub replaced : (val : V) (result : Result V V) (found : Option (K × V)) → MatchOption found ((result ≡ Err val) × (pairs_of new ≡ pairs_of old)) (λ pair. (result ≡ Ok pair.1) × (pairs_of new ≡ put cmp (pairs_of old) pair.0 val))
      → MatchOption found ((result ≡ Err val) × (index_of cmp new ≡ index_of cmp old)) (λ pair. (result ≡ Ok pair.1) × (index_of cmp new ≡ with_value cmp (index_of cmp old) pair.0 val))
  replaced val result None said = (said.0, index_with (pairs_of old) said.1)
  replaced val result (Some pair) said = (said.0, index_with _ said.1)
