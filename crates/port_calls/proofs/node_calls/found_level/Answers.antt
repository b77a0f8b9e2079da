use Rattle.port_calls.proofs.FoundLevels.{rules, fits, is_found}
use Rattle.port_calls.proofs.node_calls.found_level.Goals as goal

pub level_of-requires : goal.level_of-requires
level_of-requires g c κs within = (within.0, (within.1, (search rules, (search rules, (search fits, (assumption c.requires, assumption c.requires))))))

pub returns : goal.returns
returns g c = is_found (assumption c.requires) c.level_of.ensures.stands c.level_of.ensures.retired (assumption c.requires)
