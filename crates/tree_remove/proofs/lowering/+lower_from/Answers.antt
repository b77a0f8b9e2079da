use Rattle.tree_remove.proofs.Common.{fits, inl, node_used, rules}
use Rattle.tree_remove.proofs.Lowerings.{keyed_stays, leaf_node_stays, over_one, retired_gone}
use Rattle.tree_remove.proofs.lowering.+lower_from.Goals as goal

pub node-requires : goal.node-requires
node-requires g t c = search (rules, node_used c.args.level c.requires.node c.args.arenas.now c.args.top c.requires.part)

pub returns-then-not-is_empty : goal.returns-then-not-is_empty
returns-then-not-is_empty g t c =
    keyed_stays g.K.Ord.cmp c.args.arenas.now c.args.top c.args.level c.requires.node c.requires.part _ (rw c.in-Internal.is at c.node.ensures)
    (λ none. cc (c.is_empty.ensures.1 none))

pub remove_node-requires : goal.remove_node-requires
remove_node-requires g t c = search (rules, node_used c.args.level c.requires.node c.args.arenas.now c.args.top c.requires.part)

pub returns-in_err-below-in-Internal : goal.returns-in_err-below-in-Internal
returns-in_err-below-in-Internal g t c =
    rw c.from_residual.ensures
    (retired_gone g.K.Ord.cmp c.args.arenas.now c.args.top c.remove_node.new.self c.in-Internal.node _ (rw c.in-Internal.is at c.node.ensures)
    c.remove_node.ensures.nodes c.remove_node.ensures.leaves c.args.level c.requires.node c.requires.part c.in_err-below-in-Internal.was)

pub lower_from-requires : goal.lower_from-requires
lower_from-requires g t c κs within =
    let over = over_one g.K.Ord.cmp c.args.arenas.now c.args.top c.remove_node.new.self c.in_ok-below-in-Internal.field-0 c.args.level
    (rw c.in-Internal.is at c.node.ensures) c.remove_node.ensures.nodes c.remove_node.ensures.leaves c.requires.node c.requires.part c.requires.kind
    (c.is_empty.ensures.0 c.if-not-is_empty.false) c.in_ok-below-in-Internal.was in
    (search rules, (within.0, (within.1, (search rules, (search rules, (search fits, (over.inner, (inl over.part, over.kind))))))))

pub returns-in_ok-below-in-Internal : goal.returns-in_ok-below-in-Internal
returns-in_ok-below-in-Internal g t c =
    let over = over_one g.K.Ord.cmp c.args.arenas.now c.args.top c.remove_node.new.self c.in_ok-below-in-Internal.field-0 c.args.level
    (rw c.in-Internal.is at c.node.ensures) c.remove_node.ensures.nodes c.remove_node.ensures.leaves c.requires.node c.requires.part c.requires.kind
    (c.is_empty.ensures.0 c.if-not-is_empty.false) c.in_ok-below-in-Internal.was in
    over.on _ _ c.lower_from.ensures

pub returns-in-Leaf : goal.returns-in-Leaf
returns-in-Leaf g t c = leaf_node_stays g.K.Ord.cmp c.args.arenas.now c.args.top c.args.level c.requires.node c.requires.part c.requires.kind _ (rw c.in-Leaf.is at c.node.ensures)
