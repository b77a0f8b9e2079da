use Rattle.tree_remove.proofs.Common.{fits, walk-leaf, ◌≡◌}
use Rattle.tree_remove.proofs.LeafRemovals.{removes_in_leaf}
use Rattle.tree_remove.proofs.removal.remove_in_leaf.Goals as goal

pub leaf_mut-requires : goal.leaf_mut-requires
leaf_mut-requires g c = (search fits, (search fits, c.requires.there))

pub remove_if-requires : goal.remove_if-requires
remove_if-requires g c =
    let callable = rw (walk-leaf c.args.arenas.now c.args.id c.leaf_mut.result.now c.leaf_mut.ensures.value) at c.requires.callable in
    (search fits, rw c.array_mut.ensures.value callable)

pub returns : goal.returns
returns g c =
    let asked = rw c.array_mut.ensures.value at c.remove_if.ensures in
    let read : c.leaf.result.now ≡ c.leaf_mut.result.now = cc (c.leaf.ensures, c.leaf_mut.ensures.value) in
    let none_retired = rw (c.array.ensures, read) at c.free.ensures.sound.none_retired in
    let out = removes_in_leaf g.met.K.Ord.total _ c.args.arenas.now c.args.id _ _ _ _ c.leaf_mut.ensures.value none_retired asked.absent asked.present in
    record { removes = out.0; settled = out.1 }
