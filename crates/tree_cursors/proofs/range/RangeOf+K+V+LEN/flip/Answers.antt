use Rattle.std.proofs.Common.{true, false}
use Rattle.tree_cursors.proofs.RangesCommon.{fits}
use Rattle.tree_cursors.proofs.Flips.{flips_one, flips_same}
use Rattle.tree_cursors.proofs.range.RangeOf+K+V+LEN.flip.Goals as goal

pub returns-then-is_unopened-2 : goal.returns-then-is_unopened-2
returns-then-is_unopened-2 g c = rw (← c.self.view_is) (flips_same g.met.K.Ord.total _ _ _ _ _ _ c.self.invariant true (cc) (cc))

pub returns-then-is_none : goal.returns-then-is_none
returns-then-is_none g c = rw (← c.self.view_is)
    (flips_one g.met.K.Ord.total _ _ _ _ _ _ c.self.invariant true true (cc) (cc) _ (rw (← c.self.view_is) at c.get_back.ensures.pair) (rw c.if-is_none.true at c.is_none.ensures))

pub invariant_of-self : goal.invariant_of-self
invariant_of-self g c =
    let was = c.self.invariant in
    rw (c.replace.ensures.after, c.turned-self-inside.ensures, c.replace.ensures.value)
    (record { tree = was.tree; forward_stands = was.backward_stands; backward_stands = tt })

pub returns-then-is_unopened : goal.returns-then-is_unopened
returns-then-is_unopened g c = rw (← c.self.view_is, c.replace.ensures.after, c.turned-self-inside.ensures, c.replace.ensures.value)
    (flips_one g.met.K.Ord.total _ _ _ _ _ _ c.self.invariant true false (cc) (cc) _ (rw (← c.self.view_is) at c.get_back.ensures.pair) (rw c.if-is_none.false at c.is_none.ensures))

pub returns-then-not-is_unopened : goal.returns-then-not-is_unopened
returns-then-not-is_unopened g c = rw (← c.self.view_is) (flips_same g.met.K.Ord.total _ _ _ _ _ _ c.self.invariant false (cc) (cc))

pub returns-then-is_none-2 : goal.returns-then-is_none-2
returns-then-is_none-2 g c = rw (← c.self.view_is)
    (flips_one g.met.K.Ord.total _ _ _ _ _ _ c.self.invariant false true (cc) (cc) _ (rw (← c.self.view_is) at c.get.ensures.pair) (rw c.if-is_none-2.true at c.is_none-2.ensures))

pub invariant_of-self-2 : goal.invariant_of-self-2
invariant_of-self-2 g c =
    let was = c.self.invariant in
    rw (c.replace-2.ensures.after, c.turned-self-inside-2.ensures, c.replace-2.ensures.value)
    (record { tree = was.tree; forward_stands = tt; backward_stands = was.forward_stands })

pub returns : goal.returns
returns g c = rw (← c.self.view_is, c.replace-2.ensures.after, c.turned-self-inside-2.ensures, c.replace-2.ensures.value)
    (flips_one g.met.K.Ord.total _ _ _ _ _ _ c.self.invariant false false (cc) (cc) _ (rw (← c.self.view_is) at c.get.ensures.pair) (rw c.if-is_none-2.false at c.is_none-2.ensures))

pub turned-self-inside-requires : goal.turned-self-inside-requires
turned-self-inside-requires g c = search fits

pub turned-self-inside-requires-2 : goal.turned-self-inside-requires-2
turned-self-inside-requires-2 g c = search fits
