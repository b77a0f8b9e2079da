use Rattle.port_calls.proofs.FoundLevels.{rules, fits, cut_at, given_at, may_change, retired_there}
use Rattle.port_calls.proofs.node_calls.NodeCalls.remove_range.Goals as goal

pub found_level-level-requires : goal.found_level-level-requires
found_level-level-requires g c κs within =
    (within.0, (within.1, (search rules, (search rules, (search fits, (g.Self.NodeCalls.above_leaves g.level (assumption c.requires), given_at (assumption c.requires)))))))

pub remove_range_at-requires : goal.remove_range_at-requires
remove_range_at-requires g c = (search rules, (search fits, may_change c.found_level-level.ensures (assumption c.requires)))

pub returns-clause-cuts : goal.returns-clause-cuts
returns-clause-cuts g c =
    cut_at c.found_level-level.ensures (assumption c.requires) c.remove_range_at.ensures.cuts c.remove_range_at.ensures.retired

pub returns-clause-retired : goal.returns-clause-retired
returns-clause-retired g c retired = c.remove_range_at.ensures.retired (retired_there c.found_level-level.ensures retired)
