use Rattle.tree_node.proofs.Routes.{routed_at}
use Rattle.tree_node.proofs.routing.child_by_key.Goals as goal

pub returns : goal.returns
returns g c = routed_at g.K.Ord.cmp c.args.key.now c.args.children.now c.args.unbounded.now c.child_at.result.now c.slot_for.result c.slot_for.ensures c.child_at.ensures
