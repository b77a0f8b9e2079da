use Rattle.tree_views.proofs.Common.{rest, On, slice_partial_cmp, partial_ordering_then, moves_left}
use Rattle.tree_views.proofs.Walked.{Compare}
use Rattle.tree_views.proofs.order.order_of.Given as goal

-- what is left has the order that all had
abbrev pub invariant-loop-pair : goal.invariant-loop-pair
invariant-loop-pair g l =
    let order = slice_partial_cmp (λ p q. partial_ordering_then (g.K.PartialOrd.partial_cmp p.0 q.0) (g.V.PartialOrd.partial_cmp p.1 q.1)) in
    Compare g.K.Ord.cmp order (order (rest g.K.Ord.cmp On l.initial.left) (rest g.K.Ord.cmp On l.initial.right)) l.left l.right

abbrev pub decreases-loop-pair : goal.decreases-loop-pair
decreases-loop-pair g l = moves_left l.left
