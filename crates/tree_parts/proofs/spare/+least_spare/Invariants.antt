use Rattle.tree_parts.proofs.Common.{◌-◌, ContainsKey, leaf_spare, least, leaves_at}
use Rattle.tree_parts.proofs.LeastFree.{IsLeft}
use Rattle.tree_parts.proofs.Under.{StandsBelow}
use Rattle.tree_parts.proofs.spare.+least_spare.Given as goal

abbrev pub decreases-least_spare : goal.decreases-least_spare
decreases-least_spare g l = l.level

abbrev pub invariant-loop-leaf : goal.invariant-loop-leaf
invariant-loop-leaf g l =
    IsLeft (leaf_spare l.arenas.leaves) (leaves_at 0 l.arenas.nodes) (ContainsKey l.arenas.leaves) (least l.fn.most (leaf_spare l.arenas.leaves) (leaves_at l.fn.level l.arenas.nodes l.fn.id)) l.so_far l.leaf-iterator

abbrev pub invariant-loop-child : goal.invariant-loop-child
invariant-loop-child g l =
    IsLeft (leaf_spare l.arenas.leaves) (leaves_at (l.level - 1) l.arenas.nodes) (StandsBelow l.level l.arenas g.K.Ord.cmp) (least l.fn.most (leaf_spare l.arenas.leaves) (leaves_at l.fn.level l.arenas.nodes l.fn.id)) l.so_far l.child-iterator
