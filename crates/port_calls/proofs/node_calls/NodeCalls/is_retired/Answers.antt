use Rattle.port_calls.proofs.FoundLevels.{rules, node_at, retired_at}
use Rattle.port_calls.proofs.node_calls.NodeCalls.is_retired.Goals as goal

pub node-requires : goal.node-requires
node-requires g c = search (rules, node_at g.K.Ord.cmp c.args.arenas.now c.args.id g.level (g.Self.NodeCalls.above_leaves g.level (assumption c.requires)) (assumption c.requires))

pub returns : goal.returns
returns g c =
    let same = retired_at g.K.Ord.cmp c.args.arenas.now c.args.id g.level (g.Self.NodeCalls.above_leaves g.level (assumption c.requires)) _ c.node.ensures in
    (λ empty. same.0 (c.is_childless.ensures.0 empty), λ retired. c.is_childless.ensures.1 (same.1 retired))
