use Rattle.tree_parts.proofs.Common.{Some, None, refl, rules, sym, ◌∙◌, fits, node_at}
use Rattle.tree_parts.proofs.EndSearch.{alone_with, alone_without, goes_on, nowhere, stops}
use Rattle.tree_parts.proofs.Under.{leaf_node_over, node_over}
use Rattle.tree_parts.proofs.ends.+end_leaf_at.Goals as goal

pub node-requires : goal.node-requires
node-requires g t c = search (rules, node_at g.K.Ord.cmp _ _ _ c.requires.node c.requires.stands)

pub loop-leaf-init : goal.loop-leaf-init
loop-leaf-init g t c =
    let over = leaf_node_over g.K.Ord.cmp c.args.arenas.now c.args.id c.args.level c.requires.node c.requires.stands g.D.Direction.way c.into_iter-leaf-iterator.result c.in-Leaf.node (rw c.in-Leaf.is at c.node.ensures) (c.into_iter-leaf-iterator.ensures.into_iter_gives ∙ c.new-leaves.ensures) in
    record { each = over.each; suffices = λ result found. rw over.leaves found }

pub leaf-requires : goal.leaf-requires
leaf-requires g t c = search (rules, fits, (rw c.in-Some.ensures.steps at c.loop-leaf.invariant.each).0)

pub returns-then-not-is_empty : goal.returns-then-not-is_empty
returns-then-not-is_empty g t c = stops _ _ _ _ _ c.loop-leaf.invariant _ _ c.in-Some.ensures.steps (Some c.in-Some.leaf)
    (alone_with c.args.arenas.now.leaves c.in-Some.leaf _ (rw (c.leaf.ensures, ← c.array.ensures) c.is_empty.ensures.1) c.if-not-is_empty.true _) refl

pub loop-leaf-preserved : goal.loop-leaf-preserved
loop-leaf-preserved g t c = goes_on _ _ _ _ _ c.loop-leaf.invariant _ _ c.in-Some.ensures.steps None
    (alone_without c.args.arenas.now.leaves c.in-Some.leaf (rw (c.leaf.ensures, ← c.array.ensures) (c.is_empty.ensures.0 c.if-not-is_empty.false))) refl

pub returns-in-None : goal.returns-in-None
returns-in-None g t c = nowhere _ _ _ _ _ c.loop-leaf.invariant c.in-None.ensures.steps.0

pub loop-child-init : goal.loop-child-init
loop-child-init g t c =
    let over = node_over g.K.Ord.cmp c.args.arenas.now c.args.id c.args.level c.requires.node c.requires.stands g.D.Direction.way c.into_iter-child-iterator.result c.in-Internal.node (rw c.in-Internal.is at c.node.ensures) (c.into_iter-child-iterator.ensures.into_iter_gives ∙ c.new-children.ensures) in
    record { each = over.each; suffices = λ result found. rw over.leaves found }

pub end_leaf_at-found-requires : goal.end_leaf_at-found-requires
end_leaf_at-found-requires g t c κs within =
    let below = (rw c.in-Some-child.ensures.steps at c.loop-child.invariant.each).0 in
    (search rules, (within.0, (within.1.0, (within.1.1, (search (rules, below.0), search (rules, below.1))))))

pub returns-then-is_some : goal.returns-then-is_some
returns-then-is_some g t c = stops _ _ _ _ _ c.loop-child.invariant _ _ c.in-Some-child.ensures.steps _ c.end_leaf_at-found.ensures (sym c.is_some.ensures ∙ c.if-is_some.true)

pub loop-child-preserved : goal.loop-child-preserved
loop-child-preserved g t c = goes_on _ _ _ _ _ c.loop-child.invariant _ _ c.in-Some-child.ensures.steps _ c.end_leaf_at-found.ensures (sym c.is_some.ensures ∙ c.if-is_some.false)

pub returns-in-None-child : goal.returns-in-None-child
returns-in-None-child g t c = nowhere _ _ _ _ _ c.loop-child.invariant c.in-None-child.ensures.steps.0
