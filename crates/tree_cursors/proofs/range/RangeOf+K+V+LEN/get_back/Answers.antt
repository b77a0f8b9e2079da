use Rattle.tree_cursors.proofs.RangesCommon.{end_inside}
use Rattle.tree_cursors.proofs.Shown.{element_is, pairs_ascend}
use Rattle.tree_cursors.proofs.range.RangeOf+K+V+LEN.get_back.Goals as goal

pub returns : goal.returns
returns g c =
    let was = c.self.invariant in
    rw (← c.self.view_is) (record {
      pair = rw (element_is _ _ was.tree _ was.backward_stands) c.shown.ensures;
      ascending = pairs_ascend _ _ was.tree g.met.K.Ord.total;
      inside = end_inside _ _ was.tree _ was.backward_stands;
    })
