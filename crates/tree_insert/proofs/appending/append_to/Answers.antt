use Rattle.tree_insert.proofs.Common.{IsFull, None, fits, refl, ◌≡◌}
use Rattle.tree_insert.proofs.AppendCommon.{walk-leaf}
use Rattle.tree_insert.proofs.Edges.{larger_there}
use Rattle.tree_insert.proofs.Stored.{appended, some_leaf}
use Rattle.tree_insert.proofs.appending.append_to.Goals as goal

pub leaf-requires : goal.leaf-requires
leaf-requires g c = (search fits, (search fits, some_leaf _ c.requires.2.last.1))

pub leaf_mut-requires : goal.leaf_mut-requires
leaf_mut-requires g c = (search fits, (search fits, some_leaf _ c.requires.2.last.1))

pub returns-then-is_full : goal.returns-then-is_full
returns-then-is_full g c level id for =
    let full = rw c.array.ensures at c.is_full.ensures.0 c.if-is_full.true in
    (refl, refl, refl, λ found is. let same : c.leaf.result.now ≡ found = cc (c.leaf.ensures, is) in rw (← same) full)

pub append-requires : goal.append-requires
append-requires g c =
    let for = c.requires.2 in
    let read : c.leaf.result.now ≡ c.leaf_mut.result.now = cc (c.leaf.ensures, c.leaf_mut.ensures.value) in
    let room : IsFull g.row.LEN c.leaf_mut.result.now.array → ⊥ = λ full. cc (c.if-is_full.false, c.is_full.ensures.1 (rw (c.array.ensures, read) full)) in
    let larger = larger_there g.met.K.Ord.total c.args.arenas.now c.args.leaf for.last.1 c.args.key c.requires.0 None c.requires.1 for.part.stands for.last.0 for.beyond in
    (search fits, rw c.array_mut.ensures.value (room, rw (walk-leaf c.args.arenas.now c.args.leaf c.leaf_mut.result.now c.leaf_mut.ensures.value) at larger))

pub returns : goal.returns
returns g c level id for =
    appended g.met.K.Ord.total c.args.arenas.now c.args.leaf c.leaf_mut.result.now c.append.new.self c.args.key c.args.val c.leaf_mut.ensures.value
    (rw c.array_mut.ensures.value at c.append.ensures) for
