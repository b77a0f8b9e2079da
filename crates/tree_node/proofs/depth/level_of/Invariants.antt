use Rattle.std.proofs.Common.{◌-◌}
use Rattle.tree_node.proofs.Depths.{Counts}
use Rattle.tree_node.proofs.depth.level_of.Given as goal

abbrev pub invariant-loop-below : goal.invariant-loop-below
invariant-loop-below g l = Counts g.K.Ord.cmp l.arenas g.level l.fn.id l.count l.below

abbrev pub decreases-loop-below : goal.decreases-loop-below
decreases-loop-below g l = g.level - l.count
