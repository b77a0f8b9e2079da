use Rattle.std.proofs.Common.{◌+◌, length, arith}
use Rattle.tree_batches.proofs.Places.{most, slice_at, slice_long}
use Rattle.tree_batches.proofs.filling.refill.Goals as goal

pub returns-clause-kept : goal.returns-clause-kept
returns-clause-kept g c =
    let short = most c.args.batch.now.answered (length c.args.keys.now) c.min.result c.requires.more c.min.ensures in
    record {
      begun = omega arith;
      within = omega arith;
      inside = short.0;
      few = short.1;
      long = c.find_all.ensures.long;
      each = λ k d e low high. rw (← slice_at c.args.keys.now c.args.batch.now.answered (c.args.batch.now.answered + c.min.result) k low high d)
          (c.find_all.ensures.each _ d e (slice_long c.args.keys.now c.args.batch.now.answered (c.args.batch.now.answered + c.min.result) k low high short.0));
    }
