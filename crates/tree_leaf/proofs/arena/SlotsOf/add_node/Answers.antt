use Rattle.tree_leaf.proofs.Rooms.{refused}
use Rattle.tree_leaf.proofs.arena.SlotsOf.add_node.Goals as goal

pub returns-in-Err-clause-nodes : goal.returns-in-Err-clause-nodes
returns-in-Err-clause-nodes g c = refused c.in-Err.ensures.value_returned c.in-Err.ensures.err c.in-Err.ensures.capacity (λ had. let ok = c.in-Err.ensures.succeeds had in (cc))
