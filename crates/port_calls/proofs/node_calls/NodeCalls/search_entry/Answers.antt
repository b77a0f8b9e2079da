use Rattle.port_calls.proofs.FoundLevels.{rules, fits, searched, within_level}
use Rattle.port_calls.proofs.node_calls.NodeCalls.search_entry.Goals as goal

pub found_level-level-requires : goal.found_level-level-requires
found_level-level-requires g c κs within =
    (within.0, (within.1, (search rules, (search rules, (search fits, (g.Self.NodeCalls.above_leaves g.level (assumption c.requires), assumption c.requires))))))

pub returns-clause-found : goal.returns-clause-found
returns-clause-found g c = rw (← c.found_level-level.ensures.leaves) c.search_at.ensures.found

pub returns-clause-counted : goal.returns-clause-counted
returns-clause-counted g c = within_level c.found_level-level.ensures g.row.LEN _ _ c.search_at.ensures.counted

pub returns-clause-halved : goal.returns-clause-halved
returns-clause-halved g c = within_level c.found_level-level.ensures (searched g.row.LEN) _ _ c.search_at.ensures.halved
