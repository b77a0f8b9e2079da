use Rattle.std.proofs.Common.{length}
use denote.Param.Always.{always_mut}
use Rattle.tree_index.proofs.Refused.{IsAsked}
use Rattle.tree_index.proofs.index.TreeIndexOf.retain_sync.Given as goal

-- the test was asked of all pairs up to the one that is gone
abbrev pub invariant-loop-pair : goal.invariant-loop-pair
invariant-loop-pair g l = record {
  callable : always_mut g.F.FnMut l.keep;
  asked : IsAsked g.F.FnMut g.K.Ord.cmp l.initial.keep l.initial.self.pairs l.gone l.keep l.self.pairs;
}

abbrev pub decreases-loop-pair : goal.decreases-loop-pair
decreases-loop-pair g l = length l.self.pairs
