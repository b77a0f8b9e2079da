use Rattle.tree_insert.proofs.Lasts.{Follows}
use Rattle.tree_insert.proofs.appending.edge_at.Given as goal

abbrev pub invariant-loop-above : goal.invariant-loop-above
invariant-loop-above g l = Follows g.K.Ord.cmp l.arenas l.level l.fn.id l.at l.above

abbrev pub decreases-loop-above : goal.decreases-loop-above
decreases-loop-above g l = l.above
