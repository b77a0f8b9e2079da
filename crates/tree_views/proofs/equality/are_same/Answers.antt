use Rattle.tree_views.proofs.Common.{◌&&◌, ◌∙◌, sym}
use Rattle.tree_views.proofs.Walked.{both_move, ends_both}
use Rattle.tree_views.proofs.equality.are_same.Goals as goal

pub returns-in_default-next : goal.returns-in_default-next
returns-in_default-next g c = (both_move g.met.K.Ord.total c.loop-pair.invariant c.in-Some.ensures.steps c.in_default-next.ensures.steps).2

pub returns-then-not-is_same_pair : goal.returns-then-not-is_same_pair
returns-then-not-is_same_pair g c =
    let both = both_move g.met.K.Ord.total c.loop-pair.invariant c.in-Some.ensures.steps c.in-Some-next.ensures.steps in
    rw (sym c.is_same_pair.ensures ∙ c.if-not-is_same_pair.true) at both.2

pub loop-pair-preserved : goal.loop-pair-preserved
loop-pair-preserved g c =
    let both = both_move g.met.K.Ord.total c.loop-pair.invariant c.in-Some.ensures.steps c.in-Some-next.ensures.steps in
    record { first = both.0; second = both.1; same = rw (sym c.is_same_pair.ensures ∙ c.if-not-is_same_pair.false) at both.2 }

pub returns : goal.returns
returns g c =
    let both = both_move g.met.K.Ord.total c.loop-pair.invariant c.in_default.ensures.steps c.next-2.ensures.steps in
    ends_both (λ p q. g.K.PartialEq.eq p.0 q.0 && g.V.PartialEq.eq p.1 q.1) c.next-2.result _ c.is_none.result c.is_none.ensures ∙ both.2
