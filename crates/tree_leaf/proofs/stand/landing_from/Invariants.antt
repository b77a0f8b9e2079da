use Rattle.tree_leaf.proofs.ChainCommon.{◌++◌, ◌∷◌, List, ℕ, IsChain, leaves_on}
use Rattle.tree_leaf.proofs.Ways.{Sees, hops_left, number_of}
use Rattle.tree_leaf.proofs.stand.landing_from.Given as goal

abbrev pub invariant-loop-ahead : goal.invariant-loop-ahead
invariant-loop-ahead g l = (front back : List ℕ) → IsChain l.leaves (front ++ l.fn.id ∷ back) → Sees l.leaves l.way (leaves_on l.way front back) l.passed l.ahead

abbrev pub decreases-loop-ahead : goal.decreases-loop-ahead
decreases-loop-ahead g l = hops_left l.leaves l.way (number_of l.ahead)
