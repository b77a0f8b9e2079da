use Rattle.tree_remove.proofs.Common.{node_used, rules}
use Rattle.tree_remove.proofs.Lowerings.{keyed_stays, leaf_node_stays}
use Rattle.tree_remove.proofs.lowering.lower_root_at.Goals as goal

pub node-requires : goal.node-requires
node-requires g c = search (rules, node_used c.args.level c.requires.node c.args.arenas.now c.args.root c.requires.part)

pub returns-then-not-is_empty : goal.returns-then-not-is_empty
returns-then-not-is_empty g c =
    keyed_stays g.K.Ord.cmp c.args.arenas.now c.args.root c.args.level c.requires.node c.requires.part c.in-Internal.node (rw c.in-Internal.is at c.node.ensures)
    (λ none. cc (c.is_empty.ensures.1 none))

pub returns-in-Leaf : goal.returns-in-Leaf
returns-in-Leaf g c = leaf_node_stays g.K.Ord.cmp c.args.arenas.now c.args.root c.args.level c.requires.node c.requires.part c.requires.kind _ (rw c.in-Leaf.is at c.node.ensures)
