use Rattle.std.proofs.Common.{[], ◌∷◌, drop, arith}
use Rattle.sqlite_disk.specs.Disk.{Holds}
use Rattle.store_log.proofs.Shut.{gate_shut_crash, gate_shut_done}
use Rattle.store_log.proofs.open.shut.Goals as goal

pub returns-in_err-write_synced-clause-crash : goal.returns-in_err-write_synced-clause-crash
returns-in_err-write_synced-clause-crash g c clean =
    let r = c.requires.1.1 (c.write_synced.ensures.clean clean) in
    gate_shut_crash g.batches r.tail (g.D.Disk.seen c.args.disk.now) c.args.end r.rests.file r.rests.ends r.rests.short (g.D.Disk.may_leave c.args.disk.now) (g.D.Disk.may_leave c.write_synced.new.disk) r.opens r.rests.durable c.write_synced.ensures.crash

pub returns-clause-crash : goal.returns-clause-crash
returns-clause-crash g c clean =
    let r = c.requires.1.1 (c.write_synced.ensures.clean clean) in
    gate_shut_crash g.batches r.tail (g.D.Disk.seen c.args.disk.now) c.args.end r.rests.file r.rests.ends r.rests.short (g.D.Disk.may_leave c.args.disk.now) (g.D.Disk.may_leave c.write_synced.new.disk) r.opens r.rests.durable c.write_synced.ensures.crash

pub returns-clause-shut : goal.returns-clause-shut
returns-clause-shut g c clean =
    let r = c.requires.1.1 (c.write_synced.ensures.clean clean) in
    let written : Holds (g.D.Disk.seen c.write_synced.new.disk) c.args.end (0 ∷ []) = c.in_ok-write_synced.ensures.written (omega arith) in
    record {
      junk = drop 1 r.tail;
      file = gate_shut_done g.batches r.tail (g.D.Disk.seen c.args.disk.now) c.args.end r.rests.file r.rests.ends r.rests.short (g.D.Disk.seen c.write_synced.new.disk) c.write_synced.ensures.others written;
      ends = r.rests.ends;
      some = omega arith;
      short = r.rests.short;
      durable = c.in_ok-write_synced.ensures.durable;
    }
