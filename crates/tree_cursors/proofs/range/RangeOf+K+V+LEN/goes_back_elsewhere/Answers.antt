use Rattle.tree_cursors.proofs.Moving.{moves_back}
use Rattle.tree_cursors.proofs.range.RangeOf+K+V+LEN.goes_back_elsewhere.Goals as goal

pub returns : goal.returns
returns g c =
    let went = c.step-pair.ensures in
    rw (← c.self.view_is) (c.if_apart.result, moves_back g.met.K.Ord.total _ _ _ _ _ _ _ c.self.invariant _ _ went.stands went.pair went.place (c.if_apart.ensures _ _), c.is_some.ensures)
