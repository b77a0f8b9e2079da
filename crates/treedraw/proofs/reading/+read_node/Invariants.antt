use Rattle.std.proofs.Common.{nat_cmp}
use Rattle.tree_parts.proofs.Common.{AllByRecursion, ContainsKey}
use Rattle.tree_parts.proofs.Under.{StandsBelow}
use Rattle.treedraw.proofs.reading.+read_node.Given as goal

abbrev pub decreases-read_node : goal.decreases-read_node
decreases-read_node g l = l.level

abbrev pub invariant-loop-leaf : goal.invariant-loop-leaf
invariant-loop-leaf g l = AllByRecursion (ContainsKey l.arenas.leaves) l.leaf-iterator

abbrev pub invariant-loop-below : goal.invariant-loop-below
invariant-loop-below g l = AllByRecursion (StandsBelow l.level l.arenas nat_cmp) l.below-iterator
