use Rattle.std.proofs.Common.{◌≡◌, ◌++◌, true}
use Rattle.tree_model.proofs.Common.{IsAscending}
use Rattle.tree_index.specs.Collects.{puts}
use Rattle.tree_index.proofs.index.TreeIndexOf.try_extend.Given as goal

-- the pairs that came so far were put
abbrev pub invariant-loop-pair : goal.invariant-loop-pair
invariant-loop-pair g l =
    let old = l.initial.self in
    record {
      put : l.self.pairs ≡ puts g.K.Ord.cmp old.pairs l.yielded;
      packed : IsAscending g.K.Ord.cmp (old.pairs ++ l.yielded) → old.packed ≡ true → l.self.packed ≡ true;
    }
