use Rattle.tree_cursors.proofs.EndPairs.{steps_in_leaf}
use Rattle.tree_cursors.proofs.end.step_in_leaf.Goals as goal

pub returns-in-At : goal.returns-in-At
returns-in-At g c = rw c.in-At.is (steps_in_leaf g.K.Ord.cmp g.D.Direction.way c.in-At.walk c.next.new.self c.next.result c.next.ensures.steps)
