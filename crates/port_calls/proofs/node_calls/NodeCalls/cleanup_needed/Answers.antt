use Rattle.port_calls.proofs.FoundLevels.{rules, node_at}
use Rattle.port_calls.proofs.node_calls.NodeCalls.cleanup_needed.Goals as goal

pub node-requires : goal.node-requires
node-requires g c = search (rules, node_at g.K.Ord.cmp c.args.arenas.now c.args.id g.level (g.Self.NodeCalls.above_leaves g.level (assumption c.requires)) (assumption c.requires))

pub returns-in-Internal : goal.returns-in-Internal
returns-in-Internal g c = rw (c.node.ensures, c.in-Internal.is) c.is_empty.ensures
