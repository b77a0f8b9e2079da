use Rattle.port_calls.proofs.FoundLevels.{rules, fits, given_at, may_change, retired_there}
use Rattle.port_calls.proofs.root_calls.RootCalls.split_root.Goals as goal

pub found_level-level-requires : goal.found_level-level-requires
found_level-level-requires g c κs within =
    (within.0, (within.1, (search rules, (search rules, (search fits, (assumption c.requires, given_at (assumption c.requires)))))))

pub grow_root_at-requires : goal.grow_root_at-requires
grow_root_at-requires g c = (search rules, (search fits, may_change c.found_level-level.ensures (assumption c.requires)))

pub returns-clause-raised : goal.returns-clause-raised
returns-clause-raised g c part = (rw (c.found_level-level.ensures.up part.stands) at c.grow_root_at.ensures.raised) part

pub returns-clause-replanted : goal.returns-clause-replanted
returns-clause-replanted g c retired = c.grow_root_at.ensures.replanted (retired_there c.found_level-level.ensures retired)

pub returns-clause-places : goal.returns-clause-places
returns-clause-places g c part = (rw (c.found_level-level.ensures.up part.stands) at c.grow_root_at.ensures.places) part

pub returns-clause-leaf_place : goal.returns-clause-leaf_place
returns-clause-leaf_place g c retired = c.grow_root_at.ensures.leaf_place (retired_there c.found_level-level.ensures retired)
