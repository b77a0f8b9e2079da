use Rattle.std.proofs.Common.{sym, subst, arith}
use Rattle.store_frames.specs.Frame.{frames}
use Rattle.store_frames.proofs.Spelled.{AreBytes, bytes_by_index, bytes_behind, shorter}
use Rattle.store_frames.proofs.Seals.{sealed_itself}
use Rattle.store_frames.proofs.Tested.{none_tested, tested_more, all_tested, one_damaged}
use Rattle.store_frames.proofs.scan.test_frames.Goals as goal

pub loop-batch-init : goal.loop-batch-init
loop-batch-init c = record { tested = none_tested c.args.key c.args.bytes.now; within = omega arith }

pub loop-batch-preserved : goal.loop-batch-preserved
loop-batch-preserved c =
    let tested = c.loop-batch.invariant.tested in
    let all : AreBytes c.args.bytes.now = bytes_by_index c.args.bytes.now (λ k. (c.type_inv.bytes k).fits) in
    let are : AreBytes c.loop-batch.rest.now = bytes_behind (frames tested.begun.batches) c.loop-batch.rest.now (subst AreBytes tested.begun.whole all) in
    let found = sym c.in-Some.ensures in
    let itself = sealed_itself c.args.key c.in-Some.batch.now _ c.in-Some-unsealed.ensures.fits in
    record {
      tested = tested_more c.args.key c.args.bytes.now c.loop-batch.rest.now c.in-Some.batch.now c.in-Some.behind.now tested are found itself;
      within = omega (arith, c.loop-batch.invariant.within, shorter c.loop-batch.rest.now c.in-Some.batch.now c.in-Some.behind.now are found);
    }

pub returns-in_default-unsealed-clause-damaged : goal.returns-in_default-unsealed-clause-damaged
returns-in_default-unsealed-clause-damaged c = (
  one_damaged c.args.key c.args.bytes.now c.loop-batch.rest.now c.in-Some.batch.now c.in-Some.behind.now c.loop-batch.invariant.tested.begun (sym c.in-Some.ensures) c.in_default-unsealed.ensures.other,
  omega arith,
)

pub returns-clause-sealed : goal.returns-clause-sealed
returns-clause-sealed c = all_tested c.args.key c.args.bytes.now c.loop-batch.rest.now c.loop-batch.invariant.tested (sym c.in_default.ensures)
