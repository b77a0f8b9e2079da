use Rattle.tree_remove.proofs.Common.{fits, length, walk, walk-leaf, ◌<◌}
use Rattle.tree_remove.proofs.Ways.{led_to, not_emptied, removes_on_way, settled_on_way}
use Rattle.tree_remove.proofs.removal.remove_beside.Goals as goal

pub leaf-requires : goal.leaf-requires
leaf-requires g c =
    let led = led_to g.met.K.Ord.total c.args.key.now c.args.level c.requires.node c.args.arenas.now c.args.id c.requires.way.0 c.args.leaf c.requires.way.1 in
    (search fits, (search fits, led.there))

pub remove_in_leaf-requires : goal.remove_in_leaf-requires
remove_in_leaf-requires g c =
    let led = led_to g.met.K.Ord.total c.args.key.now c.args.level c.requires.node c.args.arenas.now c.args.id c.requires.way.0 c.args.leaf c.requires.way.1 in
    (search fits, (search fits, (led.there, rw led.found at c.requires.callable)))

pub unreachable-requires : goal.unreachable-requires
unreachable-requires g c =
    let led = led_to g.met.K.Ord.total c.args.key.now c.args.level c.requires.node c.args.arenas.now c.args.id c.requires.way.0 c.args.leaf c.requires.way.1 in
    let entries = walk-leaf c.args.arenas.now c.args.leaf c.leaf.result.now c.leaf.ensures in
    let many : 1 < length (walk 0 c.args.arenas.now c.args.leaf) = rw (entries, ← c.array.ensures, ← c.len.ensures) c.if-len-le1.false in
    not_emptied g.met.K.Ord.total led.part many (rw c.in-Retired.is at c.remove_in_leaf.ensures.removes)

pub returns-then-len-le1-clause-alone : goal.returns-then-len-le1-clause-alone
returns-then-len-le1-clause-alone g c = rw (walk-leaf c.args.arenas.now c.args.leaf c.leaf.result.now c.leaf.ensures, ← c.array.ensures, ← c.len.ensures)
    c.if-len-le1.true

pub returns-in-Success-clause-removes : goal.returns-in-Success-clause-removes
returns-in-Success-clause-removes g c =
    removes_on_way g.met.K.Ord.total _ (λ is. absurd (cc)) c.in-Success.ensures.removes c.args.level c.requires.node c.args.id c.requires.way.0 c.requires.way.1

pub returns-in-Success-clause-settled : goal.returns-in-Success-clause-settled
returns-in-Success-clause-settled g c ok one =
    settled_on_way g.met.K.Ord.total c.args.key.now c.args.arenas.now c.remove_in_leaf.new.arenas c.args.level c.args.id c.requires.way.0 c.args.leaf one
    c.requires.way.1
    c.remove_in_leaf.ensures.removes.replaces (c.remove_in_leaf.ensures.settled c.in-Success.is)

pub returns-in-Fail-clause-removes : goal.returns-in-Fail-clause-removes
returns-in-Fail-clause-removes g c =
    removes_on_way g.met.K.Ord.total _ (λ is. absurd (cc)) c.in-Fail.ensures.removes c.args.level c.requires.node c.args.id c.requires.way.0 c.requires.way.1
