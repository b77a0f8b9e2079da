use Rattle.tree_parts.proofs.Common.{rules, arith, sym, ap, ◌∙◌, On, leaf_spare, least, node_at}
use Rattle.tree_parts.proofs.LeastFree.{counted}
use Rattle.tree_parts.proofs.Under.{leaf_node_over, node_over}
use Rattle.tree_parts.proofs.spare.+least_spare.Goals as goal

pub node-requires : goal.node-requires
node-requires g t c = search (rules, node_at g.K.Ord.cmp _ _ _ c.requires.node c.requires.stands)

pub loop-leaf-init : goal.loop-leaf-init
loop-leaf-init g t c =
    let over = leaf_node_over g.K.Ord.cmp c.args.arenas.now c.args.id c.args.level c.requires.node c.requires.stands On c.into_iter-leaf-iterator.result c.in-Leaf.node (rw c.in-Leaf.is at c.node.ensures) (c.into_iter-leaf-iterator.ensures.into_iter_gives ∙ c.new-leaf-items.ensures) in
    record { each = over.each; total_is = sym (ap (least c.args.most (leaf_spare c.args.arenas.now.leaves)) over.leaves) }

pub spare_in-requires : goal.spare_in-requires
spare_in-requires g t c = search (rules, (rw c.in-Some.ensures.steps at c.loop-leaf.invariant.each).0)

pub loop-leaf-preserved : goal.loop-leaf-preserved
loop-leaf-preserved g t c = counted _ _ _ _ _ _ c.loop-leaf.invariant _ _ c.in-Some.ensures.steps _ (omega (arith, c.min-so_far.ensures, c.spare_in.ensures))

pub returns-in-None : goal.returns-in-None
returns-in-None g t c = rw c.in-None.ensures.steps.0 at c.loop-leaf.invariant.total_is

pub loop-child-init : goal.loop-child-init
loop-child-init g t c =
    let over = node_over g.K.Ord.cmp c.args.arenas.now c.args.id c.args.level c.requires.node c.requires.stands On c.into_iter-child-iterator.result c.in-Internal.node (rw c.in-Internal.is at c.node.ensures) (c.into_iter-child-iterator.ensures.into_iter_gives ∙ c.new-child-items.ensures) in
    record { each = over.each; total_is = sym (ap (least c.args.most (leaf_spare c.args.arenas.now.leaves)) over.leaves) }

pub least_spare-so_far-requires : goal.least_spare-so_far-requires
least_spare-so_far-requires g t c κs within =
    let below = (rw c.in-Some-child.ensures.steps at c.loop-child.invariant.each).0 in
    (search rules, (within.0, (within.1, (search (rules, below.0), search (rules, below.1)))))

pub loop-child-preserved : goal.loop-child-preserved
loop-child-preserved g t c = counted _ _ _ _ _ _ c.loop-child.invariant _ _ c.in-Some-child.ensures.steps _ c.least_spare-so_far.ensures

pub returns-in-None-child : goal.returns-in-None-child
returns-in-None-child g t c = rw c.in-None-child.ensures.steps.0 at c.loop-child.invariant.total_is
