use Rattle.port_calls.proofs.FoundLevels.{rules, fits}
use Rattle.port_calls.proofs.node_calls.NodeCalls.depth.Goals as goal

pub found_level-requires : goal.found_level-requires
found_level-requires g c κs within =
    (within.0, (within.1, (search rules, (search rules, (search fits, (g.Self.NodeCalls.above_leaves g.level (assumption c.requires), assumption c.requires))))))
