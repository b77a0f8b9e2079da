use Rattle.std.proofs.Common.{rules, nat_cmp, ◌∙◌}
use Rattle.tree_parts.proofs.Common.{On, fits, node_at}
use Rattle.tree_parts.proofs.Under.{leaf_node_over, node_over}
use Rattle.treedraw.proofs.reading.+read_node.Goals as goal

pub node-requires : goal.node-requires
node-requires g t c = search (rules, node_at nat_cmp _ _ _ c.requires.node c.requires.stands)

pub loop-leaf-init : goal.loop-leaf-init
loop-leaf-init g t c =
    (leaf_node_over nat_cmp c.args.arenas.now c.args.id c.args.level c.requires.node c.requires.stands On c.into_iter-leaf-iterator.result c.in-Leaf.node (rw c.in-Leaf.is at c.node.ensures) (c.into_iter-leaf-iterator.ensures.into_iter_gives ∙ c.new-leaf-items.ensures)).each

pub leaf-requires : goal.leaf-requires
leaf-requires g t c = search (rules, fits, (rw c.in-Some.ensures.steps at c.loop-leaf.invariant).0)

pub loop-leaf-preserved : goal.loop-leaf-preserved
loop-leaf-preserved g t c = (rw c.in-Some.ensures.steps at c.loop-leaf.invariant).1

pub loop-below-init : goal.loop-below-init
loop-below-init g t c =
    (node_over nat_cmp c.args.arenas.now c.args.id c.args.level c.requires.node c.requires.stands On c.into_iter-below-iterator.result c.in-Internal.node (rw c.in-Internal.is at c.node.ensures) (c.into_iter-below-iterator.ensures.into_iter_gives ∙ c.new-below-items.ensures)).each

pub loop-below-preserved : goal.loop-below-preserved
loop-below-preserved g t c = (rw c.in-Some-below.ensures.steps at c.loop-below.invariant).1

pub read_node-requires : goal.read_node-requires
read_node-requires g t c κs within =
    let below = (rw c.in-Some-below.ensures.steps at c.loop-below.invariant).0 in
    (search rules, (within, (search rules, (search fits, (search fits, (below.0, below.1))))))
