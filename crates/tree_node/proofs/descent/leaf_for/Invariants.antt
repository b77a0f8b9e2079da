use Rattle.std.proofs.Common.{suc}
use Rattle.tree_node.proofs.Ways.{IsDown}
use Rattle.tree_node.proofs.descent.leaf_for.Given as goal

abbrev pub invariant-loop-node : goal.invariant-loop-node
invariant-loop-node g l = IsDown g.K.Ord.cmp l.arenas l.key l.level l.fn.id (suc l.above) l.at

abbrev pub decreases-loop-node : goal.decreases-loop-node
decreases-loop-node g l = l.above

abbrev pub invariant-loop-above : goal.invariant-loop-above
invariant-loop-above g l = IsDown g.K.Ord.cmp l.arenas l.key l.level l.fn.id (suc l.above) l.at

abbrev pub decreases-loop-above : goal.decreases-loop-above
decreases-loop-above g l = l.above
