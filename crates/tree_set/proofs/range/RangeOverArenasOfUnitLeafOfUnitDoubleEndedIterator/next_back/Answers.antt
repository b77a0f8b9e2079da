use Rattle.tree_set.proofs.Moves.{begun_back, last_progress, takes_back}
use Rattle.tree_set.proofs.range.RangeOverArenasOfUnitLeafOfUnitDoubleEndedIterator.next_back.Goals as goal

pub invariant_of-self : goal.invariant_of-self
invariant_of-self g c = begun_back g.met.K.Ord.total _ _ _ c.in_err-element.ensures.steps c.self.invariant

pub invariant_of-self-2 : goal.invariant_of-self-2
invariant_of-self-2 g c = begun_back g.met.K.Ord.total _ _ _ c.in_ok-element.ensures.steps c.self.invariant

pub returns-in_err-element : goal.returns-in_err-element
returns-in_err-element g c =
    let taken = takes_back g.met.K.Ord.total _ _ _ c.in_err-element.ensures.steps c.self.invariant in
    rw (c.from_residual.ensures, ← c.self.view_is) (record { steps = taken; goes = last_progress (λ x. x.now) _ _ _ taken })

pub returns : goal.returns
returns g c =
    let taken = takes_back g.met.K.Ord.total _ _ _ c.in_ok-element.ensures.steps c.self.invariant in
    rw (← c.self.view_is) (record { steps = taken; goes = last_progress (λ x. x.now) _ _ _ taken })
