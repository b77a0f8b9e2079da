use Rattle.tree_node.proofs.Common.{fits}
use Rattle.std.proofs.Common.{refl}
use Rattle.tree_index.specs.Present.{MakesPresent}
use Rattle.tree_index.proofs.Puts.{same_error}
use Rattle.tree_index.proofs.Present.{absent_told, finds_stored, present_told, refused_absent, stands_stored, stands_there}
use Rattle.tree_index.proofs.index.TreeIndexOf.make_present.Goals as goal

pub returns-then-contains : goal.returns-then-contains
returns-then-contains g c =
    let old = c.args.self.now in
    let found = present_told _ c.if-contains.ensures in
    (found.0, found.1, stands_there g.met.K.Ord.total g.row.LEN old old c.args.key c.args.value found.0 found.1)

pub returns-in_err-same : goal.returns-in_err-same
returns-in_err-same g c = same_error (λ r. MakesPresent g.K.Ord.cmp g.K.Clone.is_infallible g.row.LEN c.args.self.now c.args.key c.args.value r c.args.self.now) c.from_residual.result c.in_err-same.field-0.0 c.from_residual.ensures.1 (record {
  absent = absent_told _ c.if-contains.ensures;
  kept = refl;
  spent = λ sure. absurd (c.in_err-same.ensures.cases sure);
})

pub returns-in-Err : goal.returns-in-Err
returns-in-Err g c = refused_absent g.K.Ord.cmp g.K.Clone.is_infallible g.row.LEN c.args.self.now c.insert_sync.new.self c.args.key c.args.value c.in-Err.field-0 (absent_told _ c.if-contains.ensures) c.in-Err.ensures.pairs c.in-Err.ensures.spare

pub returns-in-Ok : goal.returns-in-Ok
returns-in-Ok g c =
    let old = c.args.self.now in
    let new = c.insert_sync.new.self in
    let stored = c.in-Ok.ensures in
    let same = g.met.K.IndexKey.clone_equal _ _ c.in_ok-same.ensures.cases in
    ((c.args.key, c.args.value), finds_stored g.met.K.Ord.total g.row.LEN old new c.args.key c.args.value c.in_ok-same.same same stored.pairs.1, stands_stored g.met.K.Ord.total g.row.LEN old new c.args.key c.args.value stored.pairs.0 stored.pairs.1 stored.spare stored.packed)

pub contains-requires : goal.contains-requires
contains-requires g c = search fits

pub insert_sync-requires : goal.insert_sync-requires
insert_sync-requires g c = search fits
