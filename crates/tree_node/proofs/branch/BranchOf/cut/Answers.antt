use Rattle.std.proofs.Common.{arith}
use Rattle.tree_node.proofs.Common.{found_within}
use Rattle.tree_node.proofs.branch.BranchOf.cut.Goals as goal

pub unreachable-requires : goal.unreachable-requires
unreachable-requires g c = found_within _ _ _ _ c.distribute_apart.ensures.apart c.in_default.not-Some c.requires.within (omega arith)
