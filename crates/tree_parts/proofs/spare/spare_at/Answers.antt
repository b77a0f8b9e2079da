use Rattle.tree_parts.proofs.Common.{rules, refl, arith, w8, Fits-of_lt, len_small, no_leaves, node_at, stands_unless, spare_standing}
use Rattle.tree_parts.proofs.spare.spare_at.Goals as goal

pub node-node-requires : goal.node-node-requires
node-node-requires g c = search (rules, node_at g.K.Ord.cmp _ _ _ c.requires.node c.requires.stands)

pub returns-then-is_childless : goal.returns-then-is_childless
returns-then-is_childless g c =
    let retired = c.is_childless.ensures.0 c.if-is_childless.true in
    rw (no_leaves g.K.Ord.cmp c.args.arenas.now c.args.id c.args.level c.requires.node c.requires.stands _ c.node-node.ensures retired.1) refl

pub overflow_cast-least_spare : goal.overflow_cast-least_spare
overflow_cast-least_spare g c = Fits-of_lt {w = w8} (omega (arith, len_small _ c.slots_left.ensures.len))

pub returns : goal.returns
returns g c =
    let stands = stands_unless g.K.Ord.cmp c.args.arenas.now c.args.id c.args.level c.requires.node c.requires.stands _ c.node-node.ensures (λ retired. let wrong = c.if-is_childless.ensures.1 retired in cc) in
    let whole = spare_standing g.K.Ord.cmp c.args.arenas.now c.args.id c.args.level stands in
    cc
