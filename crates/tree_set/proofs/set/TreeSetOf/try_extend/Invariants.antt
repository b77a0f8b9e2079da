use Rattle.std.proofs.Common.{◌≡◌}
use Rattle.tree_set.specs.Collects.{added_each}
use Rattle.tree_set.proofs.set.TreeSetOf.try_extend.Given as goal

-- the elements that came so far were added
abbrev pub invariant-loop-element : goal.invariant-loop-element
invariant-loop-element g l = l.self ≡ added_each g.K.Ord.cmp l.initial.self l.yielded
