use Rattle.tree_insert.proofs.Common.{IsFull, fits, none_free, part_not_retired, ◌≡◌}
use Rattle.tree_insert.proofs.Inserts.{inserts_in_leaf}
use Rattle.tree_insert.proofs.Ways.{inserts_on_way, leaf_on_way, takes_one}
use Rattle.tree_insert.proofs.insertion.insert_with_room.Goals as goal

pub returns-in_default-clause-inserts : goal.returns-in_default-clause-inserts
returns-in_default-clause-inserts g c part =
    absurd (part_not_retired g.met.K.Ord.total c.args.arenas.now c.args.key c.args.level c.requires.node c.args.id part c.in_default.ensures.way)

pub leaf-requires : goal.leaf-requires
leaf-requires g c =
    let told = c.in-Some.ensures in
    (search fits, (search fits, leaf_on_way g.met.K.Ord.total _ c.args.key c.args.level c.requires.node c.args.id _ c.in-Some.place.leaf (told.child.0, told.way, told.child.1)))

pub leaf_mut-requires : goal.leaf_mut-requires
leaf_mut-requires g c =
    let told = c.in-Some.ensures in
    (search fits, (search fits, leaf_on_way g.met.K.Ord.total _ c.args.key c.args.level c.requires.node c.args.id _ c.in-Some.place.leaf (told.child.0, told.way, told.child.1)))

pub returns-then-is_full-clause-full : goal.returns-then-is_full-clause-full
returns-then-is_full-clause-full g c =
    rw c.leaf.ensures (none_free g.row.LEN c.leaf.result.now.array (rw c.array.ensures at c.is_full.ensures.0 c.if-is_full.true))

pub returns-clause-inserts : goal.returns-clause-inserts
returns-clause-inserts g c part =
    let place = c.in-Some.place in
    let stores = rw c.array_mut.ensures.value at c.store_beyond.ensures in
    let read : c.leaf.result.now ≡ c.leaf_mut.result.now = cc (c.leaf.ensures, c.leaf_mut.ensures.value) in
    let room : IsFull g.row.LEN c.leaf_mut.result.now.array → ⊥ = λ full. cc (c.is_full.ensures.1 (rw (c.array.ensures, read) full)) in
    inserts_on_way g.met.K.Ord.total _ c.args.arenas.now _ c.args.key c.args.val _
    (takes_one g.K.Ord.cmp g.row.LEN _ _ _ c.args.key c.args.val room _ stores) place.leaf
    (inserts_in_leaf g.met.K.Ord.total _ c.args.arenas.now place.leaf _ _ c.args.key c.args.val c.leaf_mut.ensures.value _ stores)
    c.args.level c.requires.node c.args.id place.node part c.in-Some.ensures.way c.in-Some.ensures.child.1

pub returns-clause-retired : goal.returns-clause-retired
returns-clause-retired g c retired =
    absurd (part_not_retired g.met.K.Ord.total c.args.arenas.now c.args.key c.args.level c.requires.node c.args.id c.in-Some.ensures.child.0 retired)
