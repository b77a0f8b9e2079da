use Rattle.tree_cursors.proofs.RangesCommon.{On}
use Rattle.tree_cursors.proofs.Moving.{with_progress}
use Rattle.tree_cursors.proofs.iter.IterOfIterator.next.Goals as goal

pub returns : goal.returns
returns g c = rw (← c.self.view_is) (with_progress g.K.Ord.cmp On _ _ _ c.next.ensures.steps)
