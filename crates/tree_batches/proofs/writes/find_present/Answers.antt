use Rattle.std.proofs.Common.{◌<◌, length, None, arith, refl}
use Rattle.std.proofs.lemmas.List.{get_or_default}
use Rattle.tree_node.proofs.Common.{fits}
use Rattle.tree_batches.proofs.writes.find_present.Goals as goal

pub leaves_of-requires : goal.leaves_of-requires
leaves_of-requires g c = (search fits, (search fits, (c.requires.tree, (c.requires.few, refl))))

pub entry_in-requires : goal.entry_in-requires
entry_in-requires g c =
    let held : c.loop-place.place < length c.leaves_of.new.leaves = omega (arith, c.loop-place-test.true, c.requires.few, c.leaves_of.ensures.long) in
    let leaf = c.leaves_of.ensures.each c.loop-place.place c.index-keys-place.result c.loop-place-test.true in
    (search fits, (search fits, (c.requires.tree, rw (get_or_default c.leaves_of.new.leaves c.loop-place.place c.index-leaves-place.result None held) (rw (← c.index-keys-place.is) at leaf))))
