use Rattle.tree_model.proofs.Common.{HasBegun, rest}
use Rattle.tree_model.specs.declared.way.Way.TheVariants.{On}
use denote.Param.Always.{always_mut}
use Rattle.tree_cursors.specs.Ranged.{moves_left}
use Rattle.tree_index.proofs.Refused.{HasPassed}
use Rattle.tree_index.proofs.retain.refused_place.Given as goal

-- the test passed each pair that the cursor has given
abbrev pub invariant-loop-key : goal.invariant-loop-key
invariant-loop-key g l = record {
  callable : always_mut g.F.FnMut l.keep;
  begun : HasBegun g.K.Ord.cmp On l.pairs;
  asked : HasPassed g.F.FnMut l.initial.keep (rest g.K.Ord.cmp On l.initial.pairs) l.keep (rest g.K.Ord.cmp On l.pairs);
}

abbrev pub decreases-loop-key : goal.decreases-loop-key
decreases-loop-key g l = moves_left l.pairs
