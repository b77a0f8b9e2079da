use Rattle.tree_parts.proofs.Common.{◌-◌, ContainsKey, leaves_at}
use Rattle.tree_parts.proofs.EndSearch.{IsSought}
use Rattle.tree_parts.proofs.Under.{StandsBelow}
use Rattle.tree_parts.proofs.ends.+end_leaf_at.Given as goal

abbrev pub decreases-end_leaf_at : goal.decreases-end_leaf_at
decreases-end_leaf_at g l = l.level

abbrev pub invariant-loop-leaf : goal.invariant-loop-leaf
invariant-loop-leaf g l =
    IsSought l.arenas.leaves (leaves_at 0 l.arenas.nodes) g.D.Direction.way (leaves_at l.level l.arenas.nodes l.fn.id) (ContainsKey l.arenas.leaves) l.leaf-iterator

abbrev pub invariant-loop-child : goal.invariant-loop-child
invariant-loop-child g l =
    IsSought l.arenas.leaves (leaves_at (l.level - 1) l.arenas.nodes) g.D.Direction.way (leaves_at l.level l.arenas.nodes l.fn.id) (StandsBelow l.level l.arenas g.K.Ord.cmp) l.child-iterator
