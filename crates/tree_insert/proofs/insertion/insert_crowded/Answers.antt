use Rattle.tree_insert.proofs.Common.{refl, rules, unchanged_part}
use Rattle.tree_insert.proofs.Inserts.{no_split}
use Rattle.tree_insert.proofs.Restarts.{inserts_before}
use Rattle.tree_insert.proofs.Ways.{inserts_at_node, node_on_way}
use Rattle.tree_insert.proofs.insertion.insert_crowded.Goals as goal

pub insert_under_leaf_node-requires : goal.insert_under_leaf_node-requires
insert_under_leaf_node-requires g c =
    let part = node_on_way g.met.K.Ord.total c.args.arenas.now c.args.crowded.key c.args.level c.requires.node c.args.id _ c.requires.way.0 c.requires.way.1 in
    (search rules, (search rules, (part, c.requires.way.2)))

pub insert_from-requires : goal.insert_from-requires
insert_from-requires g c =
    let full = rw c.in-Full.is at (rw c.in-Ok.is at c.insert_under_leaf_node.ensures) in
    let part = unchanged_part c.args.level c.args.arenas.now _ (full.unchanged refl) g.K.Ord.cmp c.args.id c.requires.way.0 in
    (search rules, (search rules, (c.requires.node, part)))

pub returns-in-Err : goal.returns-in-Err
returns-in-Err g c =
    let at = c.args.crowded in
    let ins = rw c.in-Err.is at c.insert_under_leaf_node.ensures in
    inserts_at_node g.met.K.Ord.total _ _ _ at.key at.val _ refl at.place.node ins c.args.level c.requires.node c.args.id c.requires.way.0 c.requires.way.1

pub returns-in-Full : goal.returns-in-Full
returns-in-Full g c =
    let full = rw c.in-Full.is at (rw c.in-Ok.is at c.insert_under_leaf_node.ensures) in
    inserts_before (full.unchanged refl) c.args.level c.args.id c.insert_from.result (rw (full.pairs.1, full.pairs.2) at c.insert_from.ensures)

pub returns-in_default : goal.returns-in_default
returns-in_default g c =
    let at = c.args.crowded in
    let ins = rw c.in-Ok.is at c.insert_under_leaf_node.ensures in
    inserts_at_node g.met.K.Ord.total _ _ _ at.key at.val _ (no_split c.in-Ok.answer c.in_default.not-Full) at.place.node ins c.args.level c.requires.node
    c.args.id c.requires.way.0 c.requires.way.1
