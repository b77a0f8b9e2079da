use Rattle.tree_cursors.proofs.Common.{◌++◌, List, ℕ, bound_map, IsChain, leaves_at, count_left, path}
use Rattle.tree_cursors.proofs.Seeks.{IsSought}
use Rattle.tree_cursors.proofs.seek.seek_at.Given as goal

abbrev pub invariant-loop-key : goal.invariant-loop-key
invariant-loop-key g l = (front back : List ℕ) → IsChain l.arenas.leaves (front ++ (leaves_at l.fn.level l.arenas.nodes l.fn.id ++ back))
    → IsSought g.K.Ord.cmp g.D.Direction.way (bound_map (λ k. k.now) l.bound) (path g.D.Direction.way l.fn.level l.arenas l.fn.id front back) l.arenas.leaves (front ++ (leaves_at l.fn.level l.arenas.nodes l.fn.id ++ back)) l.walk

abbrev pub decreases-loop-key : goal.decreases-loop-key
decreases-loop-key g l = count_left g.D.Direction.way l.walk
