use Rattle.tree_views.proofs.Common.{◌&&◌, rest, On, pointwise, moves_left}
use Rattle.tree_views.proofs.Walked.{Compare}
use Rattle.tree_views.proofs.equality.are_same.Given as goal

-- what is left agrees where all did
abbrev pub invariant-loop-pair : goal.invariant-loop-pair
invariant-loop-pair g l =
    let agree = pointwise (λ p q. g.K.PartialEq.eq p.0 q.0 && g.V.PartialEq.eq p.1 q.1) in
    Compare g.K.Ord.cmp agree (agree (rest g.K.Ord.cmp On l.initial.left) (rest g.K.Ord.cmp On l.initial.right)) l.left l.right

abbrev pub decreases-loop-pair : goal.decreases-loop-pair
decreases-loop-pair g l = moves_left l.left
