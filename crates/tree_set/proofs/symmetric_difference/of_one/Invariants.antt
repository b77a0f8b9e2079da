use Rattle.std.proofs.Common.{◌+◌, length}
use Rattle.tree_set.specs.Merges.{IsPassed, symmetric_difference}
use Rattle.tree_set.proofs.symmetric_difference.of_one.Given as goal

-- what was passed changes nothing
abbrev pub invariant-loop-x : goal.invariant-loop-x
invariant-loop-x g l = IsPassed g.K.Ord.cmp symmetric_difference l.first l.second l.initial.first l.initial.second

abbrev pub decreases-loop-x : goal.decreases-loop-x
decreases-loop-x g l = length l.first + length l.second
