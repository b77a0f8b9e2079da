use Rattle.std.proofs.Common.{◌++◌}
use Rattle.tree_leaf.proofs.Rests.{count_left}
use Rattle.tree_model.specs.declared.way.Way.TheVariants.{On}
use Rattle.tree_root.specs.Trees.{IsWhole, pairs_of}
use Rattle.tree_index.specs.Copies.{IsPairClone}
use Rattle.tree_index.proofs.Copied.{IsCopying}
use Rattle.tree_index.proofs.copies.append_clones.Given as goal

-- the tree and the run have clones of what the walk has given
abbrev pub invariant-loop-key : goal.invariant-loop-key
invariant-loop-key g l = record {
  whole : IsWhole g.K.Ord.cmp l.tree;
  copying : IsCopying g.K.Ord.cmp (IsPairClone g.K.Clone.is_clone g.V.Clone.is_clone) (pairs_of l.other) l.pairs (pairs_of l.tree ++ l.run);
}

abbrev pub decreases-loop-key : goal.decreases-loop-key
decreases-loop-key g l = count_left On l.pairs
