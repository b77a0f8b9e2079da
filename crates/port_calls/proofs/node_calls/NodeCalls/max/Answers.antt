use Rattle.port_calls.proofs.FoundLevels.{rules, Back, fits, may_begin, begins_at}
use Rattle.port_calls.proofs.node_calls.NodeCalls.max.Goals as goal

pub found_level-level-requires : goal.found_level-level-requires
found_level-level-requires g c κs within =
    (within.0, (within.1, (search rules, (search rules, (search fits, (g.Self.NodeCalls.above_leaves g.level (assumption c.requires), assumption c.requires))))))

pub walk_from_end-requires : goal.walk_from_end-requires
walk_from_end-requires g c = (search rules, (search rules, (search fits, may_begin c.found_level-level.ensures (assumption c.requires))))

pub returns : goal.returns
returns g c = begins_at c.found_level-level.ensures Back _ c.walk_from_end.ensures
