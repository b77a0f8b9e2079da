use Rattle.tree_remove.proofs.Common.{fits, refl, surely, true, ◌≡◌}
use Rattle.tree_remove.proofs.EntryPlaces.{leaf_stored, slot_found}
use Rattle.tree_remove.proofs.LeafRemovals.{removes_in_leaf}
use Rattle.tree_remove.proofs.entries.take_slot.Goals as goal

pub leaf-requires : goal.leaf-requires
leaf-requires g c = (search fits, (search fits, leaf_stored _ _ _ c.requires.1))

pub leaf_mut-requires : goal.leaf_mut-requires
leaf_mut-requires g c = (search fits, (search fits, leaf_stored _ _ _ c.requires.1))

pub returns : goal.returns
returns g c =
    let read : c.leaf.result.now ≡ c.leaf_mut.result.now = cc (c.leaf.ensures, c.leaf_mut.ensures.value) in
    let none_retired = rw (c.array.ensures, read) at c.free.ensures.sound.none_retired in
    let taken = rw c.array_mut.ensures.value at c.take.ensures in
    let found = slot_found g.K.Ord.cmp c.args.arenas.now c.args.place.leaf c.args.place.slot c.leaf_mut.ensures.value c.requires.1 c.requires.2 taken.pair in
    let out = removes_in_leaf g.met.K.Ord.total surely c.args.arenas.now c.args.place.leaf _ _ _ _ c.leaf_mut.ensures.value none_retired
    (λ none. absurd (cc (none, found))) (rw found (true, refl, (taken.left, taken.answer))) in
    record { taken = rw c.leaf_mut.ensures.value taken.pair; removes = out.0; settled = out.1 }
