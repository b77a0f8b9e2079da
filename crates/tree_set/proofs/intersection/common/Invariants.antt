use Rattle.std.proofs.Common.{◌+◌, length}
use Rattle.tree_set.specs.Merges.{IsPassed, intersection}
use Rattle.tree_set.proofs.intersection.common.Given as goal

-- what was passed changes nothing
abbrev pub invariant-loop-x : goal.invariant-loop-x
invariant-loop-x g l = IsPassed g.K.Ord.cmp intersection l.first l.second l.initial.first l.initial.second

abbrev pub decreases-loop-x : goal.decreases-loop-x
decreases-loop-x g l = length l.first + length l.second
