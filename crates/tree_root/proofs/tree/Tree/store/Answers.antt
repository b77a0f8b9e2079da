use Rattle.std.proofs.Common.{Ok, ap, refl}
use Rattle.tree_node.proofs.Common.{fits}
use Rattle.tree_root.specs.Trees.{told}
use Rattle.tree_root.proofs.Storing.{answered, never_full, no_room, part_or_retired, stored_grown, stored_under}
use Rattle.tree_root.proofs.tree.Tree.store.Goals as goal

pub insert_with_room-requires : goal.insert_with_room-requires
insert_with_room-requires g c =
    let tree = rw c.in-Some.is at c.requires.whole in
    (search fits, (search fits, (tree.top.0, part_or_retired g.K.Ord.cmp c.args.self.now.arenas c.in-Some.root.id c.in-Some.root.level tree)))

pub store_grown-requires : goal.store_grown-requires
store_grown-requires g c =
    let none = no_room g.K.Ord.cmp _ c.args.self.now (record c.args.self.now { arenas = c.insert_with_room.new.arenas }) c.args.key c.args.val c.in-Some.root.id c.in-Some.root.level (Ok c.in-Ok.answer) c.in-Some.is c.in-Some.is c.requires.whole c.in-Ok.ensures.inserts (answered c.in-Ok.ensures.retired)
    c.in-Full.key c.in-Full.val (ap Ok c.in-Full.is) in
    (search fits, (c.requires.len, (none.still_whole, (c.in-Some.is, (none.full, (none.absent, none.spent))))))

pub store_crowded-requires : goal.store_crowded-requires
store_crowded-requires g c =
    let back = c.in-Err.ensures.crowded in
    (search fits, (c.requires.len, (rw back.0 c.requires.whole, (c.in-Some.is, rw (back.0, back.1) back.3))))

pub returns-in-Err : goal.returns-in-Err
returns-in-Err g c =
    let back = c.in-Err.ensures.crowded in
    rw (back.0, back.1, back.2) at c.store_crowded.ensures

pub returns-in-New : goal.returns-in-New
returns-in-New g c =
    rw c.in-New.is at
    (stored_under g.K.Ord.cmp _ c.args.self.now (record c.args.self.now { arenas = c.insert_with_room.new.arenas }) c.args.key c.args.val c.in-Some.root.id c.in-Some.root.level (Ok c.in-Ok.answer) c.in-Some.is c.in-Some.is c.requires.whole c.in-Ok.ensures.inserts (answered c.in-Ok.ensures.retired) g.met.K.Ord.total
    (rw c.in-New.is refl))

pub returns-in-Replaced : goal.returns-in-Replaced
returns-in-Replaced g c =
    rw c.in-Replaced.is at
    (stored_under g.K.Ord.cmp _ c.args.self.now (record c.args.self.now { arenas = c.insert_with_room.new.arenas }) c.args.key c.args.val c.in-Some.root.id c.in-Some.root.level (Ok c.in-Ok.answer) c.in-Some.is c.in-Some.is c.requires.whole c.in-Ok.ensures.inserts (answered c.in-Ok.ensures.retired) g.met.K.Ord.total
    (rw c.in-Replaced.is refl))

pub returns-in-Duplicate : goal.returns-in-Duplicate
returns-in-Duplicate g c =
    rw c.in-Duplicate.is at
    (stored_under g.K.Ord.cmp _ c.args.self.now (record c.args.self.now { arenas = c.insert_with_room.new.arenas }) c.args.key c.args.val c.in-Some.root.id c.in-Some.root.level (Ok c.in-Ok.answer) c.in-Some.is c.in-Some.is c.requires.whole c.in-Ok.ensures.inserts (answered c.in-Ok.ensures.retired) g.met.K.Ord.total
    (rw c.in-Duplicate.is refl))

pub returns-in-Full : goal.returns-in-Full
returns-in-Full g c =
    let none = no_room g.K.Ord.cmp _ c.args.self.now (record c.args.self.now { arenas = c.insert_with_room.new.arenas }) c.args.key c.args.val c.in-Some.root.id c.in-Some.root.level (Ok c.in-Ok.answer) c.in-Some.is c.in-Some.is c.requires.whole c.in-Ok.ensures.inserts (answered c.in-Ok.ensures.retired)
    c.in-Full.key c.in-Full.val (ap Ok c.in-Full.is) in
    let tree = rw c.in-Some.is at c.requires.whole in
    stored_grown g.K.Ord.cmp _ c.args.self.now (record c.args.self.now { arenas = c.insert_with_room.new.arenas }) c.store_grown.new.self c.args.key c.args.val (told c.store_grown.result) none.was_spent (rw c.in-Some.is tree.top.0) (rw (none.same_key, none.pairs) at none.absent) none.pairs (never_full c.store_grown.result)
    (rw (none.same_key, none.same_val) at c.store_grown.ensures) (rw (none.same_key, none.pairs, none.packed) at c.store_grown.ensures.packed)

pub returns-in_default : goal.returns-in_default
returns-in_default g c = c.store_first.ensures _

pub store_first-requires : goal.store_first-requires
store_first-requires g c = search fits
