use Rattle.std.proofs.Common.{rules}
use Rattle.tree_split.proofs.Common.{fits, not_full_room}
use Rattle.tree_split.proofs.LeafRooms.{emptied_so, leaf_used, may_split}
use Rattle.tree_split.proofs.leaf_split.empty_last.Goals as goal

pub leaf-requires : goal.leaf-requires
leaf-requires g c = (search fits, (search fits, leaf_used g.met.K.Ord.total c.args.arenas.now c.args.id c.args.target c.args.key.now c.requires.part c.requires.child))

pub split_leaf-requires : goal.split_leaf-requires
split_leaf-requires g c =
    let some = not_full_room c.node.result.now (λ full. cc (c.is_full-full.ensures.1 full, c.if-full.false)) in
    let may = may_split c.args.arenas.now c.args.id c.args.target c.leaf.ensures c.array.ensures c.low_count.ensures.sound c.in-Some.ensures.cut.1 c.in-Some.ensures.whole c.node.ensures some in
    (search rules, (search rules, (c.requires.part, (c.requires.child, may))))

pub returns-clause-done : goal.returns-clause-done
returns-clause-done g c =
    let made = c.in_ok-split_leaf.ensures in
    emptied_so c.args.arenas.now c.args.id c.args.target c.leaf.ensures c.array.ensures c.low_count.ensures.sound c.in-Some.ensures.cut.1 c.if-count.false c.requires.last made.done made.last made.high
