use Rattle.tree_remove.proofs.Common.{fits, walk-leaf}
use Rattle.tree_remove.proofs.EntryPlaces.{absent_retired, absent_there, entry_there}
use Rattle.tree_remove.proofs.Ways.{led_to}
use Rattle.tree_remove.proofs.entries.entry_for.Goals as goal

pub leaf-requires : goal.leaf-requires
leaf-requires g c =
    let place = c.in_ok-place.place in
    let told = c.in_ok-place.ensures in
    let led = led_to g.met.K.Ord.total c.args.key.now c.args.level c.requires.node c.args.arenas.now c.args.id place.node place.leaf
    (told.child.0, told.way, told.child.1) in
    (search fits, (search fits, led.there))

pub returns-in_err-place : goal.returns-in_err-place
returns-in_err-place g c =
    rw c.from_residual.ensures (absent_retired g.met.K.Ord.total c.args.arenas.now c.args.key.now c.args.level c.requires.node c.args.id
    c.in_err-place.ensures.way)

pub returns-in_err-slot : goal.returns-in_err-slot
returns-in_err-slot g c =
    let place = c.in_ok-place.place in
    let told = c.in_ok-place.ensures in
    let none = absent_there g.met.K.Ord.total _ c.args.key.now c.args.level c.requires.node c.args.id place.node place.leaf
    (told.child.0, told.way, told.child.1) in
    rw c.from_residual-in_err-slot.ensures (none (rw (walk-leaf c.args.arenas.now place.leaf _ c.leaf.ensures) (rw c.array.ensures at c.in_err-slot.ensures)))

pub returns : goal.returns
returns g c =
    let place = c.in_ok-place.place in
    let told = c.in_ok-place.ensures in
    let found = rw c.array.ensures at c.in_ok-slot.ensures in
    let entry = entry_there g.met.K.Ord.total _ c.args.key.now c.args.level c.requires.node c.args.id place.node place.leaf
    (told.child.0, told.way, told.child.1) c.in_ok-slot.slot found.0 found.1 (rw c.leaf.ensures found.2)
    (rw (walk-leaf c.args.arenas.now place.leaf _ c.leaf.ensures) found.3) in
    (found.0, found.1, entry)
