use Rattle.tree_cursors.proofs.RangesCommon.{Some, sym, ◌∙◌, On}
use Rattle.tree_cursors.proofs.Moving.{gives_element, gives_none, moves_on, with_progress}
use Rattle.tree_cursors.proofs.Shown.{element_is}
use Rattle.tree_cursors.proofs.range.RangeOfIterator.next.Goals as goal

pub returns-then-goes_elsewhere : goal.returns-then-goes_elsewhere
returns-then-goes_elsewhere g c =
    let went = c.goes_elsewhere.ensures in
    let inv = c.self-in_default.invariant in
    rw (← c.self.view_is, ← c.in_default.ensures.0) (with_progress g.K.Ord.cmp On _ _ _ (gives_element g.K.Ord.cmp On _ _ _ _ went.1 (sym went.2 ∙ c.if-goes_elsewhere.true)
    (rw (← c.self-in_default.view_is, element_is _ _ inv.tree _ inv.forward_stands) c.pair_on.ensures)))

pub returns-in_default : goal.returns-in_default
returns-in_default g c =
    let went = c.goes_elsewhere.ensures in
    rw (← c.self.view_is, ← c.in_default.ensures.0) (with_progress g.K.Ord.cmp On _ _ _ (gives_none g.K.Ord.cmp On _ _ _ went.1 (sym went.2 ∙ c.if-goes_elsewhere.false)))

pub invariant_of-self-2 : goal.invariant_of-self-2
invariant_of-self-2 g c =
    let went = c.in-Some.ensures _ _ c.self.invariant.tree c.self.invariant.forward_stands in
    record { tree = c.self.invariant.tree; forward_stands = went.stands; backward_stands = c.self.invariant.backward_stands }

pub returns : goal.returns
returns g c =
    let went = c.in-Some.ensures _ _ c.self.invariant.tree c.self.invariant.forward_stands in
    rw (← c.self.view_is) (with_progress g.K.Ord.cmp On _ _ _
    (moves_on g.met.K.Ord.total _ _ _ _ _ _ _ c.self.invariant (Some c.in-Some.pair) _ went.stands (sym went.pair) (went.place _) (c.if_apart.ensures _ _)))
