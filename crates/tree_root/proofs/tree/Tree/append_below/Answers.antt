use Rattle.tree_model.proofs.LookUps.{absent_beyond}
use Rattle.tree_node.proofs.Sizes.{fits}
use Rattle.tree_root.proofs.tree.Tree.append_below.Goals as goal

pub store-requires : goal.store-requires
store-requires g c = (search fits, (c.requires.len, c.requires.whole))

pub unreachable-requires : goal.unreachable-requires
unreachable-requires g c =
    let stores = rw (c.in-Ok-Replaced.is, c.in-Ok-Replaced.field-0-is) at c.store.ensures in
    let absent = absent_beyond g.K.Ord.cmp _ c.args.key c.requires.beyond in
    let none = rw absent at stores.pairs.1 in
    cc

pub last_leaf-requires : goal.last_leaf-requires
last_leaf-requires g c = search fits
