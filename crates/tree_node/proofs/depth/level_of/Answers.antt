use Rattle.std.proofs.Common.{◌+◌, IsSome, arith, refl, rules}
use Rattle.tree_node.proofs.Common.{get}
use Rattle.tree_node.proofs.Depths.{counts_on, starts}
use Rattle.tree_node.proofs.Levels.{node_at}
use Rattle.tree_node.proofs.depth.level_of.Goals as goal

pub node-requires : goal.node-requires
node-requires g c =
    let there = node_at g.K.Ord.cmp c.args.arenas.now c.args.id g.level (assumption c.requires) (assumption c.requires) in
    search rules

pub loop-below-init : goal.loop-below-init
loop-below-init g c =
    rw c.last_node-below.ensures (starts g.K.Ord.cmp c.args.arenas.now g.level c.args.id (assumption c.requires) (assumption c.requires) _ c.node.ensures)

pub node-requires-in-Some : goal.node-requires-in-Some
node-requires-in-Some g c =
    let there : IsSome (get c.args.arenas.now.nodes c.in-Some.at) = rw (rw c.in-Some.is at c.loop-below.invariant).3.here refl in search rules

pub loop-below-preserved : goal.loop-below-preserved
loop-below-preserved g c =
    let on = rw c.in-Some.is at c.loop-below.invariant in
    rw c.last_node-below-in-Some.ensures
    (counts_on g.K.Ord.cmp c.args.arenas.now g.level c.args.id (c.loop-below.count + 1) on.1 c.in-Some.at (assumption c.requires) on.0 (omega (arith, on.2)) on.3 _ c.node-in-Some.ensures)

pub returns : goal.returns
returns g c = let ended = rw c.in_default.is at c.loop-below.invariant in record { stands = ended.0; retired = ended.1 }
