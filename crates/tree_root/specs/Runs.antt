-- What a tree comes to, and a run of pairs behind it that aren't in the tree yet.
use Rattle.std.specs.Prelude.{◌≡◌, ℕ, true, List, ◌++◌}
use Rattle.std.specs.declared.cmp.Ordering.{Ordering}
use Rattle.tree_root.specs.declared.tree.Tree.{Tree}
use Rattle.tree_root.specs.Trees.{IsWhole, packed_of, pairs_of}

-- The tree and the run have the pairs that they had, and more behind these. A packed tree stays packed.
pub record Gathers {K V : Type 0} {LEN : ℕ} (cmp : K → K → Ordering) (old new : Tree K V LEN) (run left more : List (K × V)) : Type 0 where
  pub whole : IsWhole cmp new
  pub pairs : pairs_of new ++ left ≡ (pairs_of old ++ run) ++ more
  pub packed : packed_of cmp old ≡ true → packed_of cmp new ≡ true
