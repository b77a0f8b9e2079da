use Rattle.tree_node.proofs.Routes.{routed_at}
use Rattle.tree_node.proofs.branch.BranchOf.child_place.Goals as goal

pub returns-clause-child : goal.returns-clause-child
returns-clause-child g c = rw c.in_ok-last.was (routed_at g.K.Ord.cmp c.args.key.now c.args.self.now.children c.in_ok-last.last c.child_at.result.now c.slot_beyond-slot.result c.slot_beyond-slot.ensures c.child_at.ensures)
