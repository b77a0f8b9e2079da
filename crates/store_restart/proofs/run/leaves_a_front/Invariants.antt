use Rattle.std.proofs.Common.{◌≡◌, ◌++◌, ℕ}
use Rattle.store_codec.specs.Records.{record_at}
use Rattle.store_pair.specs.Pair.{AreClean}
use Rattle.store_restart.proofs.Runs.{HasRun}
use Rattle.store_restart.proofs.run.leaves_a_front.Given as goal

-- the batches so far were made
abbrev pub invariant-loop-batch : goal.invariant-loop-batch
invariant-loop-batch g l =
    let kinds : ℕ × ℕ = (g.K.Encode.kind_number, g.V.Encode.kind_number) in
    record {
      given : l.yielded ++ l.batch-iterator.rest.items ≡ l.fn.batches.items;
      run : HasRun g.K.Ord.cmp g.K.Encode.seen g.V.Encode.seen (record_at g.K.Encode.value_at g.V.Encode.value_at) kinds l.fn.store.pairs g.D.Disk.is_clean g.D.Disk.may_leave l.reached l.yielded l.store;
      clean : AreClean g.D.Disk.is_clean l.store.saved.files → AreClean g.D.Disk.is_clean l.fn.store.saved.files;
    }
