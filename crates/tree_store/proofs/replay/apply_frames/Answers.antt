use Rattle.std.proofs.Common.{◌≡◌, ℕ, List, sym, ◌∙◌, subst}
use Rattle.store_codec.specs.Records.{record_at, record_map}
use Rattle.store_frames.specs.Seal.{text_of}
use Rattle.std.proofs.Common.{map}
use Rattle.store_frames.proofs.Spelled.{behind_shorter}
use Rattle.tree_store.specs.Changes.{ReadsRecords}
use Rattle.tree_store.proofs.Replayed.{all_ahead, front_has, none_ahead, one_ahead}
use Rattle.tree_store.proofs.replay.apply_frames.Goals as goal

pub loop-batch-init : goal.loop-batch-init
loop-batch-init g c key texts reads = all_ahead g.K.Ord.cmp g.K.Encode.seen g.V.Encode.seen (record_at g.K.Encode.value_at g.V.Encode.value_at) key texts c.args.index.now.pairs c.args.bytes.now reads

pub loop-batch-preserved : goal.loop-batch-preserved
loop-batch-preserved g c key texts reads =
    let read = record_at g.K.Encode.value_at g.V.Encode.value_at in
    let led = c.in-Ok.ensures.led in
    let text_is : c.text_in.result.now ≡ text_of c.in-Some.batch.now = c.text_in.ensures in
    one_ahead g.K.Ord.cmp g.K.Encode.seen g.V.Encode.seen read key texts c.args.index.now.pairs c.loop-batch.index.pairs c.loop-batch.rest.now c.in-Some.batch.now c.in-Some.behind.now (sym c.in-Some.ensures) c.apply_text.new.index.pairs led.0
    (subst (λ (t : List ℕ). ReadsRecords read (map (record_map g.K.Encode.seen g.V.Encode.seen) led.0) t) text_is led.1) led.2 (c.loop-batch.invariant key texts reads)

pub returns-in-Err-clause-sound : goal.returns-in-Err-clause-sound
returns-in-Err-clause-sound g c is key texts reads have =
    let read = record_at g.K.Encode.value_at g.V.Encode.value_at in
    let text_is : c.text_in.result.now ≡ text_of c.in-Some.batch.now = c.text_in.ensures in
    let has = front_has g.K.Ord.cmp g.K.Encode.seen g.V.Encode.seen read key texts c.args.index.now.pairs c.loop-batch.index.pairs c.loop-batch.rest.now c.in-Some.batch.now c.in-Some.behind.now (sym c.in-Some.ensures) (c.loop-batch.invariant key texts reads) have in
    c.in-Err.ensures.sound is has.0 (subst (λ (t : List ℕ). ReadsRecords read has.0 t) (sym text_is) has.1)

pub returns-clause-led : goal.returns-clause-led
returns-clause-led g c key texts reads =
    none_ahead g.K.Ord.cmp g.K.Encode.seen g.V.Encode.seen (record_at g.K.Encode.value_at g.V.Encode.value_at) key texts c.args.index.now.pairs c.loop-batch.index.pairs c.loop-batch.rest.now (sym c.in_default.ensures) (c.loop-batch.invariant key texts reads)

pub loop-batch-smaller : goal.loop-batch-smaller
loop-batch-smaller g c = behind_shorter c.loop-batch.rest.now c.in-Some.batch.now c.in-Some.behind.now (sym c.in-Some.ensures)
