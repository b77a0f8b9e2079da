use Rattle.std.proofs.Common.{nat_cmp}
use Rattle.tree_node.proofs.Common.{fits}
use Rattle.tree_index.proofs.Indexed.{walks_from}
use Rattle.treedraw.proofs.reading.shape_of.Goals as goal

pub parts-root-requires : goal.parts-root-requires
parts-root-requires g c = search fits

pub read_node-requires : goal.read_node-requires
read_node-requires g c =
    let is = rw c.in-Some.is at c.parts-root.ensures in
    let walks = walks_from nat_cmp c.args.index.now c.parts-root.result.0.now c.in-Some.root is in
    rw c.depth-in-Some.ensures.depth (search fits, (search fits, (walks.0, walks.1)))
