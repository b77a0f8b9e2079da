use Rattle.tree_views.proofs.Common.{◌≡◌, ◌∙◌, Option, Ordering, Some, arith, false, is_ne, partial_ordering_then, sym, true}
use Rattle.tree_views.proofs.Walked.{both_move}
use Rattle.tree_views.proofs.order.order_of.Goals as goal

-- an order that decides, and one that leaves it to the rest
decides : (order : Ordering) (rest : Option Ordering) → is_ne order ≡ true → partial_ordering_then (Some order) rest ≡ Some order
decides order rest differs = grind arith

leaves_open : (order : Ordering) (rest : Option Ordering) → is_ne order ≡ false → partial_ordering_then (Some order) rest ≡ rest
leaves_open order rest same = grind arith

pub returns-in_default-next : goal.returns-in_default-next
returns-in_default-next g c = (both_move g.met.K.Ord.total c.loop-pair.invariant c.in-Some.ensures.steps c.in_default-next.ensures.steps).2

pub returns-in_err-order : goal.returns-in_err-order
returns-in_err-order g c =
    let both = both_move g.met.K.Ord.total c.loop-pair.invariant c.in-Some.ensures.steps c.in-Some-next.ensures.steps in
    rw c.from_residual.ensures (rw (sym c.order_of_pairs.ensures ∙ c.in_err-order.was) at both.2)

pub returns-then-is_ne : goal.returns-then-is_ne
returns-then-is_ne g c =
    let both = both_move g.met.K.Ord.total c.loop-pair.invariant c.in-Some.ensures.steps c.in-Some-next.ensures.steps in
    sym (decides c.in_ok-order.order _ (sym c.is_ne.ensures ∙ c.if-is_ne.true)) ∙ (rw (sym c.order_of_pairs.ensures ∙ c.in_ok-order.was) at both.2)

pub returns-in-Some-next-2 : goal.returns-in-Some-next-2
returns-in-Some-next-2 g c = (both_move g.met.K.Ord.total c.loop-pair.invariant c.in_default.ensures.steps c.in-Some-next-2.ensures.steps).2

pub returns-in-None : goal.returns-in-None
returns-in-None g c = (both_move g.met.K.Ord.total c.loop-pair.invariant c.in_default.ensures.steps c.in-None.ensures.steps).2

pub loop-pair-preserved : goal.loop-pair-preserved
loop-pair-preserved g c =
    let both = both_move g.met.K.Ord.total c.loop-pair.invariant c.in-Some.ensures.steps c.in-Some-next.ensures.steps in
    record {
      first = both.0;
      second = both.1;
      same = sym (leaves_open c.in_ok-order.order _ (sym c.is_ne.ensures ∙ c.if-is_ne.false)) ∙ (rw (sym c.order_of_pairs.ensures ∙ c.in_ok-order.was) at both.2);
    }
