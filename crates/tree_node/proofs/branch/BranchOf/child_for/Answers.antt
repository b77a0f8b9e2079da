use Rattle.std.proofs.Common.{sym}
use Rattle.tree_node.proofs.Routes.{routed_at}
use Rattle.tree_node.proofs.branch.BranchOf.child_for.Goals as goal

pub returns-clause-child : goal.returns-clause-child
returns-clause-child g c =
    rw c.in-Some.is (sym (routed_at g.K.Ord.cmp (g.A.Asks.key c.args.asked.now) c.args.self.now.children c.in-Some.last c.child_at.result.now c.min_greater_equal-slot.result c.min_greater_equal-slot.ensures.found c.child_at.ensures))
