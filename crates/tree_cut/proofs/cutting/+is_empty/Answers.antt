use Rattle.tree_cut.proofs.Common.{rules, ◌-◌, arith, sym, ap, ◌∙◌, Arrivals, fits, walk-leaf}
use Rattle.tree_cut.proofs.Nodes.{keyed_pair, only_child, above_leaves, at_leaves, leaf_there, node_there, node_under}
use Rattle.tree_cut.proofs.cutting.+is_empty.Goals as goal

pub leaf-requires : goal.leaf-requires
leaf-requires g t c =
    (search rules, (search fits, leaf_there g.K.Ord.cmp c.args.level c.args.arenas.now c.in-Leaf.is c.requires.kind c.requires.stands))

pub node-node-requires : goal.node-node-requires
node-node-requires g t c = search (rules, node_there g.K.Ord.cmp c.args.level c.args.arenas.now c.in-Node.is c.requires.kind c.requires.stands)

pub child_at-child-requires : goal.child_at-child-requires
child_at-child-requires g t c =
    let node = node_under g.K.Ord.cmp c.args.level c.args.arenas.now c.in-Node.is c.requires.kind c.requires.stands c.node-node.ensures in
    (search fits, (node.has_last, omega arith))

pub overflow_sub-level : goal.overflow_sub-level
overflow_sub-level g t c = above_leaves c.args.level c.in-Node.is c.requires.kind

pub is_empty-requires-in-Node : goal.is_empty-requires-in-Node
is_empty-requires-in-Node g t c κs within =
    let node = node_under g.K.Ord.cmp c.args.level c.args.arenas.now c.in-Node.is c.requires.kind c.requires.stands c.node-node.ensures in
    let only = only_child node (omega (arith, c.if-keyed_count-gt0.false, c.keyed_count.ensures.count)) c.child_at-child.ensures.child in
    let kind = c.child_at-child.ensures.kind (c.args.level - 1) node.kind in
    let inner = above_leaves c.args.level c.in-Node.is c.requires.kind in
    (omega (arith, inner), (within.0, (within.1, (search rules, (search rules, (search fits, (kind, only.stands)))))))

pub returns-then-keyed_count-gt0-clause-told : goal.returns-then-keyed_count-gt0-clause-told
returns-then-keyed_count-gt0-clause-told g t c before none =
    let node = node_under g.K.Ord.cmp c.args.level c.args.arenas.now c.in-Node.is c.requires.kind c.requires.stands c.node-node.ensures in
    absurd (keyed_pair node (omega (arith, c.if-keyed_count-gt0.true, c.keyed_count.ensures.count)) (rw c.in-Node.is at before) (rw c.in-Node.is at none))

pub returns-in-Leaf : goal.returns-in-Leaf
returns-in-Leaf g t c =
    let entries = ap (λ (array : Arrivals _ _). array.entries) c.array.ensures in
    let walked = walk-leaf c.args.arenas.now c.in-Leaf.id _ c.leaf.ensures in
    rw (c.in-Leaf.is, at_leaves c.args.level c.in-Leaf.is c.requires.kind)
    (record { empty = λ yes. walked ∙ sym entries ∙ c.is_empty.ensures.0 yes; told = λ before none. c.is_empty.ensures.1 (entries ∙ sym walked ∙ none) })

pub returns-else-keyed_count-gt0 : goal.returns-else-keyed_count-gt0
returns-else-keyed_count-gt0 g t c =
    let node = node_under g.K.Ord.cmp c.args.level c.args.arenas.now c.in-Node.is c.requires.kind c.requires.stands c.node-node.ensures in
    let only = only_child node (omega (arith, c.if-keyed_count-gt0.false, c.keyed_count.ensures.count)) c.child_at-child.ensures.child in
    rw c.in-Node.is (record {
      empty = λ yes. only.same_walk ∙ c.is_empty-in-Node.ensures.empty yes;
      told = λ before none. c.is_empty-in-Node.ensures.told (only.no_empty before) (sym only.same_walk ∙ none);
    })
