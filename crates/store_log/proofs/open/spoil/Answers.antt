use Rattle.std.proofs.Common.{◌+◌, [], ◌∷◌, length, drop, arith}
use Rattle.sqlite_disk.specs.Disk.{Holds}
use Rattle.store_frames.specs.Frame.{frames}
use Rattle.store_frames.proofs.Frames.{not_open}
use Rattle.store_log.proofs.Shut.{ends_crash, spoiled_crash, spoiled_done, unmarked_opens}
use Rattle.store_log.proofs.open.spoil.Goals as goal

pub returns-in_default-clause-crash : goal.returns-in_default-clause-crash
returns-in_default-clause-crash g c clean =
    let r = c.requires.1.1.1 clean in
    ends_crash g.batches c.args.tail.now (g.D.Disk.seen c.args.disk.now) c.args.end r.file r.ends r.short (g.D.Disk.may_leave c.args.disk.now) r.none r.durable

pub returns-then-gate-clause-crash : goal.returns-then-gate-clause-crash
returns-then-gate-clause-crash g c clean =
    let r = c.requires.1.1.1 clean in
    ends_crash g.batches c.args.tail.now (g.D.Disk.seen c.args.disk.now) c.args.end r.file r.ends r.short (g.D.Disk.may_leave c.args.disk.now) r.none r.durable

pub returns-in_err-write_synced-clause-crash : goal.returns-in_err-write_synced-clause-crash
returns-in_err-write_synced-clause-crash g c clean =
    let r = c.requires.1.1.1 (c.write_synced.ensures.clean clean) in
    spoiled_crash g.batches c.args.tail.now (g.D.Disk.seen c.args.disk.now) c.args.end r.file r.ends r.short c.in-Some.gate.now c.in-Some.field-0-1.now c.in-Some.ensures.cases.0 c.if-gate.false (g.D.Disk.may_leave c.args.disk.now) (g.D.Disk.may_leave c.write_synced.new.disk) r.durable c.write_synced.ensures.crash

pub returns-clause-crash : goal.returns-clause-crash
returns-clause-crash g c clean =
    let r = c.requires.1.1.1 (c.write_synced.ensures.clean clean) in
    spoiled_crash g.batches c.args.tail.now (g.D.Disk.seen c.args.disk.now) c.args.end r.file r.ends r.short c.in-Some.gate.now c.in-Some.field-0-1.now c.in-Some.ensures.cases.0 c.if-gate.false (g.D.Disk.may_leave c.args.disk.now) (g.D.Disk.may_leave c.write_synced.new.disk) r.durable c.write_synced.ensures.crash

pub returns-clause-ready : goal.returns-clause-ready
returns-clause-ready g c clean =
    let r = c.requires.1.1.1 (c.write_synced.ensures.clean clean) in
    let written : Holds (g.D.Disk.seen c.write_synced.new.disk) (c.args.end + 1) (0 ∷ []) = c.in_ok-write_synced.ensures.written (omega arith) in
    let gate = c.in-Some.gate.now in
    let after = drop (length (frames g.batches) + 1 + 1) (g.D.Disk.seen c.write_synced.new.disk) in
    record {
      tail = gate ∷ 0 ∷ after;
      opens = unmarked_opens gate after;
      rests = record {
        file = spoiled_done g.batches c.args.tail.now (g.D.Disk.seen c.args.disk.now) c.args.end r.file r.ends r.short gate c.in-Some.field-0-1.now c.in-Some.ensures.cases.0 c.if-gate.false (g.D.Disk.seen c.write_synced.new.disk) c.write_synced.ensures.others written;
        ends = r.ends;
        none = not_open gate (0 ∷ after) c.if-gate.false;
        short = r.short;
        durable = c.in_ok-write_synced.ensures.durable;
      };
    }
