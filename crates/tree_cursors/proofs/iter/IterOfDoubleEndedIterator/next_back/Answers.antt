use Rattle.tree_cursors.proofs.RangesCommon.{Back}
use Rattle.tree_cursors.proofs.Moving.{with_progress}
use Rattle.tree_cursors.proofs.iter.IterOfDoubleEndedIterator.next_back.Goals as goal

pub returns : goal.returns
returns g c = rw (← c.self.view_is) (with_progress g.K.Ord.cmp Back _ _ _ c.next_back.ensures.steps)
