use Rattle.tree_insert.proofs.Common.{arith, fits, leaf_used}
use Rattle.tree_insert.proofs.Inserts.{no_split}
use Rattle.tree_insert.proofs.LeafNodes.{leaf_full, leaf_stored, room_stored}
use Rattle.tree_insert.proofs.Retries.{no_room_either, part_with_room, refused_room, retried, which_still}
use Rattle.tree_insert.proofs.insertion.insert_under_leaf_node.Goals as goal

pub leaf_mut-requires : goal.leaf_mut-requires
leaf_mut-requires g c =
    (search fits, (search fits, leaf_used g.met.K.Ord.total c.args.arenas.now c.args.id c.args.leaf c.args.key c.requires.part c.requires.child))

pub make_room-requires : goal.make_room-requires
make_room-requires g c =
    let below = leaf_full g.met.K.Ord.total c.args.leaf c.args.key c.args.val c.requires.part c.requires.child c.leaf_mut.ensures.value _ c.array_mut.ensures.value c.store_beyond.ensures c.in-Full.is in
    (search fits, (search fits, (below.part, which_still below)))

pub leaf_mut-requires-in-Ok-Some : goal.leaf_mut-requires-in-Ok-Some
leaf_mut-requires-in-Ok-Some g c =
    let below = leaf_full g.met.K.Ord.total c.args.leaf c.args.key c.args.val c.requires.part c.requires.child c.leaf_mut.ensures.value _ c.array_mut.ensures.value c.store_beyond.ensures c.in-Full.is in
    let made = rw c.in-Ok-Some.field-0-is at c.in-Ok-Some.ensures.done in
    let part = part_with_room below (omega arith) made.0 in
    (search fits, (search fits, leaf_used g.met.K.Ord.total c.make_room.new.arenas c.args.id c.in-Ok-Some.home c.in-Full.key part made.1))

pub returns-in-Err : goal.returns-in-Err
returns-in-Err g c =
    let below = leaf_full g.met.K.Ord.total c.args.leaf c.args.key c.args.val c.requires.part c.requires.child c.leaf_mut.ensures.value _ c.array_mut.ensures.value c.store_beyond.ensures c.in-Full.is in
    refused_room below (omega arith) c.in-Err.ensures.err c.in-Err.ensures.many

pub returns-in-Ok-Some : goal.returns-in-Ok-Some
returns-in-Ok-Some g c =
    let below = leaf_full g.met.K.Ord.total c.args.leaf c.args.key c.args.val c.requires.part c.requires.child c.leaf_mut.ensures.value _ c.array_mut.ensures.value c.store_beyond.ensures c.in-Full.is in
    let made = rw c.in-Ok-Some.field-0-is at c.in-Ok-Some.ensures.done in
    let part = part_with_room below (omega arith) made.0 in
    retried below (omega arith) made.0 _ (room_stored g.met.K.Ord.total c.in-Ok-Some.home c.in-Full.key c.in-Full.val part made.1
    c.leaf_mut-in-Ok-Some.ensures.value _ c.array_mut-in-Ok-Some.ensures.value c.store.ensures (made.0.child c.in-Ok-Some.home made.1))

pub returns-in-Ok-None : goal.returns-in-Ok-None
returns-in-Ok-None g c =
    let below = leaf_full g.met.K.Ord.total c.args.leaf c.args.key c.args.val c.requires.part c.requires.child c.leaf_mut.ensures.value _ c.array_mut.ensures.value c.store_beyond.ensures c.in-Full.is in
    no_room_either below (omega arith) (rw c.in-Ok-None.field-0-is at c.in-Ok-None.ensures.done)

pub returns-in_default : goal.returns-in_default
returns-in_default g c =
    leaf_stored g.met.K.Ord.total c.args.leaf c.args.key c.args.val c.requires.part c.requires.child c.leaf_mut.ensures.value _ c.array_mut.ensures.value c.store_beyond.ensures
    (no_split c.store_beyond.result c.in_default.not-Full)
