use Rattle.port_calls.proofs.FoundLevels.{rules, fits, may_begin, approximates_at}
use Rattle.port_calls.proofs.node_calls.NodeCalls.approximate.Goals as goal

pub found_level-level-requires : goal.found_level-level-requires
found_level-level-requires g c κs within =
    (within.0, (within.1, (search rules, (search rules, (search fits, (g.Self.NodeCalls.above_leaves g.level (assumption c.requires), assumption c.requires))))))

pub approximate_at-requires : goal.approximate_at-requires
approximate_at-requires g c = (search rules, (search rules, (search fits, may_begin c.found_level-level.ensures (assumption c.requires))))

pub returns : goal.returns
returns g c = approximates_at c.found_level-level.ensures _ _ _ c.approximate_at.ensures
