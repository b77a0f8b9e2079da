use Rattle.std.proofs.Common.{ℕ, [], refl, subst}
use Rattle.store_codec.specs.Records.{record_at}
use Rattle.store_pair.specs.Pair.{AreClean, MayHold, held_in}
use Rattle.store_pair.specs.declared.files.Files.{Files}
use Rattle.tree_store.proofs.Alike.{stand_once}
use Rattle.store_restart.proofs.Fronts.{after_alike, after_other, err_both, none_yet, ok_both}
use Rattle.store_restart.proofs.restart.finds_a_front.Goals as goal

pub returns-in-Ok-clause-found : goal.returns-in-Ok-clause-found
returns-in-Ok-clause-found g c =
    ok_both c.restart.result c.restart.ensures.found c.restart.ensures.clean (λ store found cleaner clean pairs stand.
    let key = g.K.Encode.seen in
    let value = g.V.Encode.seen in
    let law = g.met.K.StoreKey.seen_equal in
    let order = g.met.K.Ord.total in
    let read = record_at g.K.Encode.value_at g.V.Encode.value_at in
    let kinds : ℕ × ℕ = (g.K.Encode.kind_number, g.V.Encode.kind_number) in
    let run = c.leaves_a_front-reached in
    let same = c.into_files.ensures in
    let was = subst (λ (f : Files g.row.D.Denot). AreClean g.D.Disk.is_clean f) same (cleaner clean) in
    let is = found clean in
    let left = run.ensures.left was is.0 (subst (λ (f : Files g.row.D.Denot). MayHold g.D.Disk.may_leave f is.0) same is.1) in
    let first = c.in-Ok.store.pairs in
    let opened = c.in-Ok.ensures.opened (run.ensures.clean was) in
    let once = stand_once order key value law read refl kinds (held_in g.D.Disk.seen c.args.files) first pairs opened stand in
    let now = stand_once order key value law read refl kinds is.0 store.pairs left.pairs is.2 left.stand in
    after_alike key value g.K.Ord.cmp run.result c.args.batches.items pairs left.pairs store.pairs (after_other order key value law run.result c.args.batches.items first pairs left.pairs left.after once) now)

pub returns-in-Ok-clause-sound : goal.returns-in-Ok-clause-sound
returns-in-Ok-clause-sound g c =
    err_both c.restart.result c.restart.ensures.sound c.restart.ensures.clean_err (λ e sound cleaner clean refuses pairs stand.
    let run = c.leaves_a_front-reached in
    let same = c.into_files.ensures in
    let was = subst (λ (f : Files g.row.D.Denot). AreClean g.D.Disk.is_clean f) same (cleaner clean) in
    let is = sound clean refuses in
    let left = run.ensures.left was is.0 (subst (λ (f : Files g.row.D.Denot). MayHold g.D.Disk.may_leave f is.0) same is.1) in
    is.2 left.pairs left.stand)

pub returns-in-Err-clause-found : goal.returns-in-Err-clause-found
returns-in-Err-clause-found g c =
    ok_both c.restart-in-Err.result c.restart-in-Err.ensures.found c.restart-in-Err.ensures.clean (λ store found cleaner clean pairs stand.
    let key = g.K.Encode.seen in
    let value = g.V.Encode.seen in
    let read = record_at g.K.Encode.value_at g.V.Encode.value_at in
    let kinds : ℕ × ℕ = (g.K.Encode.kind_number, g.V.Encode.kind_number) in
    let is = found clean in
    let left = c.in-Err.ensures.crash (cleaner clean) pairs stand is.0 is.1 in
    record {
      front = [];
      is = none_yet (record { made = 0; durable = 0 }) c.args.batches.items refl;
      alike = stand_once g.met.K.Ord.total key value g.met.K.StoreKey.seen_equal read refl kinds is.0 store.pairs pairs is.2 left;
    })

pub returns-in-Err-clause-sound : goal.returns-in-Err-clause-sound
returns-in-Err-clause-sound g c =
    err_both c.restart-in-Err.result c.restart-in-Err.ensures.sound c.restart-in-Err.ensures.clean_err (λ e sound cleaner clean refuses pairs stand.
    let is = sound clean refuses in
    is.2 pairs (c.in-Err.ensures.crash (cleaner clean) pairs stand is.0 is.1))
