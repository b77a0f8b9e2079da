use Rattle.std.proofs.Common.{Ok, Err, ap, refl}
use Rattle.tree_node.proofs.Common.{fits}
use Rattle.tree_root.specs.Trees.{told}
use Rattle.tree_root.proofs.Storing.{never_full, no_room, not_retired, stored_grown, stored_under}
use Rattle.tree_root.proofs.tree.Tree.store_crowded.Goals as goal

pub insert_crowded-requires : goal.insert_crowded-requires
insert_crowded-requires g c =
    let tree = rw c.requires.root at c.requires.whole in
    (search fits, (search fits, (tree.top.0, c.requires.way)))

pub store_grown-requires : goal.store_grown-requires
store_grown-requires g c =
    let none = no_room g.K.Ord.cmp _ c.args.self.now (record c.args.self.now { arenas = c.insert_crowded.new.arenas }) c.args.crowded.key c.args.crowded.val c.args.root.id c.args.root.level (Ok c.in-Ok.answer) c.requires.root c.requires.root c.requires.whole (λ part. c.in-Ok.ensures) (not_retired g.met.K.Ord.total c.args.self.now.arenas c.args.crowded.key c.args.root.level c.args.root.id (rw c.requires.root at c.requires.whole).top.0 c.requires.way.0)
    c.in-Full.key c.in-Full.val (ap Ok c.in-Full.is) in
    (search fits, (c.requires.len, (none.still_whole, (c.requires.root, (none.full, (none.absent, none.spent))))))

pub returns-in-Err : goal.returns-in-Err
returns-in-Err g c =
    stored_under g.K.Ord.cmp _ c.args.self.now _ c.args.crowded.key c.args.crowded.val c.args.root.id c.args.root.level (Err (c.in-Err.key, c.in-Err.val)) c.requires.root c.requires.root c.requires.whole (λ part. c.in-Err.ensures) (not_retired g.met.K.Ord.total c.args.self.now.arenas c.args.crowded.key c.args.root.level c.args.root.id (rw c.requires.root at c.requires.whole).top.0 c.requires.way.0) g.met.K.Ord.total refl

pub returns-in-New : goal.returns-in-New
returns-in-New g c =
    rw c.in-New.is at
    (stored_under g.K.Ord.cmp _ c.args.self.now (record c.args.self.now { arenas = c.insert_crowded.new.arenas }) c.args.crowded.key c.args.crowded.val c.args.root.id c.args.root.level (Ok c.in-Ok.answer) c.requires.root c.requires.root c.requires.whole (λ part. c.in-Ok.ensures) (not_retired g.met.K.Ord.total c.args.self.now.arenas c.args.crowded.key c.args.root.level c.args.root.id (rw c.requires.root at c.requires.whole).top.0 c.requires.way.0) g.met.K.Ord.total
    (rw c.in-New.is refl))

pub returns-in-Replaced : goal.returns-in-Replaced
returns-in-Replaced g c =
    rw c.in-Replaced.is at
    (stored_under g.K.Ord.cmp _ c.args.self.now (record c.args.self.now { arenas = c.insert_crowded.new.arenas }) c.args.crowded.key c.args.crowded.val c.args.root.id c.args.root.level (Ok c.in-Ok.answer) c.requires.root c.requires.root c.requires.whole (λ part. c.in-Ok.ensures) (not_retired g.met.K.Ord.total c.args.self.now.arenas c.args.crowded.key c.args.root.level c.args.root.id (rw c.requires.root at c.requires.whole).top.0 c.requires.way.0) g.met.K.Ord.total
    (rw c.in-Replaced.is refl))

pub returns-in-Duplicate : goal.returns-in-Duplicate
returns-in-Duplicate g c =
    rw c.in-Duplicate.is at
    (stored_under g.K.Ord.cmp _ c.args.self.now (record c.args.self.now { arenas = c.insert_crowded.new.arenas }) c.args.crowded.key c.args.crowded.val c.args.root.id c.args.root.level (Ok c.in-Ok.answer) c.requires.root c.requires.root c.requires.whole (λ part. c.in-Ok.ensures) (not_retired g.met.K.Ord.total c.args.self.now.arenas c.args.crowded.key c.args.root.level c.args.root.id (rw c.requires.root at c.requires.whole).top.0 c.requires.way.0) g.met.K.Ord.total
    (rw c.in-Duplicate.is refl))

pub returns-in-Full : goal.returns-in-Full
returns-in-Full g c =
    let none = no_room g.K.Ord.cmp _ c.args.self.now (record c.args.self.now { arenas = c.insert_crowded.new.arenas }) c.args.crowded.key c.args.crowded.val c.args.root.id c.args.root.level (Ok c.in-Ok.answer) c.requires.root c.requires.root c.requires.whole (λ part. c.in-Ok.ensures) (not_retired g.met.K.Ord.total c.args.self.now.arenas c.args.crowded.key c.args.root.level c.args.root.id (rw c.requires.root at c.requires.whole).top.0 c.requires.way.0)
    c.in-Full.key c.in-Full.val (ap Ok c.in-Full.is) in
    let tree = rw c.requires.root at c.requires.whole in
    stored_grown g.K.Ord.cmp _ c.args.self.now (record c.args.self.now { arenas = c.insert_crowded.new.arenas }) c.store_grown.new.self c.args.crowded.key c.args.crowded.val (told c.store_grown.result) none.was_spent (rw c.requires.root tree.top.0) (rw (none.same_key, none.pairs) at none.absent) none.pairs (never_full c.store_grown.result)
    (rw (none.same_key, none.same_val) at c.store_grown.ensures) (rw (none.same_key, none.pairs, none.packed) at c.store_grown.ensures.packed)
