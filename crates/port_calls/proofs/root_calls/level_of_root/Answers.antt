use Rattle.port_calls.proofs.FoundLevels.{rules, sym, arith, fits, inner_level, node_used, outer_level, given_at, over_nodes}
use Rattle.port_calls.proofs.root_calls.level_of_root.Goals as goal

pub node-requires : goal.node-requires
node-requires g c = search (rules, node_used {cmp = g.K.Ord.cmp} g.level (assumption c.requires) c.args.arenas.now c.args.root (assumption c.requires))

pub level_of-requires : goal.level_of-requires
level_of-requires g c κs within =
    (within.0, (within.1, (search rules, (search rules, (search fits, (assumption c.requires, given_at (assumption c.requires)))))))

pub returns-in-Internal-clause-level : goal.returns-in-Internal-clause-level
returns-in-Internal-clause-level g c part =
    let high = inner_level g.level (assumption c.requires) c.args.arenas.now c.args.root part c.in-Internal.field-0 (rw c.in-Internal.is at c.node.ensures) in
    omega (arith, c.max.ensures, c.level_of.ensures.stands part.stands, high)

pub returns-in-Internal-clause-kind : goal.returns-in-Internal-clause-kind
returns-in-Internal-clause-kind g c = over_nodes c.max.result (omega (arith, c.max.ensures)) _ c.in-Internal.field-0 (rw c.in-Internal.is at c.node.ensures)

pub returns-in-Leaf-clause-level : goal.returns-in-Leaf-clause-level
returns-in-Leaf-clause-level g c part =
    sym (outer_level g.level (assumption c.requires) c.args.arenas.now c.args.root part c.in-Leaf.field-0 (rw c.in-Leaf.is at c.node.ensures))
