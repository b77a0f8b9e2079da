use Rattle.tree_cut.proofs.Common.{rules, ◌-◌, None, arith, Stands, fits}
use Rattle.tree_cut.proofs.Ends.{at_end, end_below, end_of_leaf}
use Rattle.tree_cut.proofs.Nodes.{above_leaves, at_leaves, node_there, node_under}
use Rattle.tree_cut.proofs.dropping.+end_leaf.Goals as goal

pub node-requires : goal.node-requires
node-requires g t c = search (rules, node_there g.K.Ord.cmp c.args.level c.args.arenas.now c.in-Node.is c.requires.kind c.requires.stands)

pub end_child-child-requires : goal.end_child-child-requires
end_child-child-requires g t c =
    let node = node_under g.K.Ord.cmp c.args.level c.args.arenas.now c.in-Node.is c.requires.kind c.requires.stands c.node.ensures in
    (search fits, node.has_last)

pub overflow_sub-level : goal.overflow_sub-level
overflow_sub-level g t c = above_leaves c.args.level c.in-Node.is c.requires.kind

pub end_leaf-requires : goal.end_leaf-requires
end_leaf-requires g t c κs within =
    let node = node_under g.K.Ord.cmp c.args.level c.args.arenas.now c.in-Node.is c.requires.kind c.requires.stands c.node.ensures in
    let stands = at_end (λ x. Stands g.K.Ord.cmp (c.args.level - 1) c.args.arenas.now None x None) c.args.end _ _ c.end_child-child.ensures.child node.stand in
    let kind = c.end_child-child.ensures.kind (c.args.level - 1) node.kind in
    let inner = above_leaves c.args.level c.in-Node.is c.requires.kind in
    (omega (arith, inner), (within.0, (within.1, (search rules, (search rules, (search fits, (kind, stands)))))))

pub returns-in-Leaf : goal.returns-in-Leaf
returns-in-Leaf g t c = rw (c.in-Leaf.is, at_leaves c.args.level c.in-Leaf.is c.requires.kind) (end_of_leaf c.args.end c.in-Leaf.id)

pub returns-in-Node : goal.returns-in-Node
returns-in-Node g t c =
    let node = node_under g.K.Ord.cmp c.args.level c.args.arenas.now c.in-Node.is c.requires.kind c.requires.stands c.node.ensures in
    rw (c.in-Node.is, node.leaves) (end_below c.args.arenas.now.nodes (c.args.level - 1) c.args.end _ _ _ c.end_child-child.ensures.child c.end_leaf.ensures)
