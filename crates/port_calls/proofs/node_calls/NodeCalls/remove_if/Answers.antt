use Rattle.port_calls.proofs.FoundLevels.{rules, arith, ◌≡◌, fits, given_at, may_change, removed_at}
use Rattle.port_calls.proofs.node_calls.NodeCalls.remove_if.Goals as goal

pub found_level-level-requires : goal.found_level-level-requires
found_level-level-requires g c κs within =
    (within.0, (within.1, (search rules, (search rules, (search fits, (g.Self.NodeCalls.above_leaves g.level (assumption c.requires), given_at (assumption c.requires)))))))

pub remove_at-requires : goal.remove_at-requires
remove_at-requires g c =
    let found = c.found_level-level.ensures in
    (search rules, (search fits, (found.inner, ((may_change found (assumption c.requires)).1, rw found.leaves (assumption c.requires)))))

pub returns-clause-removes : goal.returns-clause-removes
returns-clause-removes g c = removed_at c.found_level-level.ensures (assumption c.requires) c.remove_at.ensures.removes

pub returns-clause-settled : goal.returns-clause-settled
returns-clause-settled g c lowest =
    let found = c.found_level-level.ensures in
    let one : c.found_level-level.result ≡ 1 = omega (arith, lowest, found.inner, found.le) in
    c.remove_at.ensures.settled one
