use Rattle.tree_insert.proofs.Common.{fits, rules}
use Rattle.tree_insert.proofs.AppendCommon.{node_there}
use Rattle.tree_insert.proofs.Lasts.{arrives, goes_down, starts, stops, stops_at}
use Rattle.tree_node.proofs.Ways.{not_internal, not_leaf}
use Rattle.tree_insert.proofs.appending.edge_at.Goals as goal

pub loop-above-init : goal.loop-above-init
loop-above-init g c = starts g.K.Ord.cmp c.args.arenas.now c.args.level c.args.id c.requires.node c.requires.stands

pub node-requires : goal.node-requires
node-requires g c = (search fits, node_there c.loop-above.above c.args.arenas.now c.loop-above.at c.loop-above.invariant.there)

pub node-requires-2 : goal.node-requires-2
node-requires-2 g c = (search fits, node_there c.loop-above.above c.args.arenas.now c.loop-above.at c.loop-above.invariant.there)

pub returns-in_default : goal.returns-in_default
returns-in_default g c =
    stops_at c.loop-above.invariant (rw c.in_default.is at c.node.ensures) (not_leaf c.loop-above.above c.in_default.field-0 (search rules))

pub returns-in_err-at : goal.returns-in_err-at
returns-in_err-at g c = rw c.from_residual.ensures (stops c.loop-above.invariant (rw c.in-Internal.is at c.node.ensures) c.in_err-at.was)

pub loop-above-preserved : goal.loop-above-preserved
loop-above-preserved g c = goes_down c.loop-above.invariant (rw c.in-Internal.is at c.node.ensures) c.in_ok-at.at c.in_ok-at.was (search rules)

pub returns-in_default-node : goal.returns-in_default-node
returns-in_default-node g c =
    stops_at c.loop-above.invariant (rw c.in_default-node.is at c.node-2.ensures) (not_internal c.loop-above.above c.in_default-node.field-0 (search rules))

pub returns-in_err-leaf : goal.returns-in_err-leaf
returns-in_err-leaf g c = rw c.from_residual-in_err-leaf.ensures (stops c.loop-above.invariant (rw c.in-Leaf.is at c.node-2.ensures) c.in_err-leaf.was)

pub returns : goal.returns
returns g c = arrives c.loop-above.invariant (rw c.in-Leaf.is at c.node-2.ensures) c.in_ok-leaf.leaf c.in_ok-leaf.was (search rules) c.requires.node
