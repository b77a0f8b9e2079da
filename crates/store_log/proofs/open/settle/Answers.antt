use Rattle.store_log.proofs.Shut.{ends_crash}
use Rattle.store_log.proofs.open.settle.Goals as goal

pub returns-then-room-gt0-clause-crash : goal.returns-then-room-gt0-clause-crash
returns-then-room-gt0-clause-crash g c clean =
    let r = c.requires.1.1.1 clean in
    ends_crash g.batches c.args.tail.now (g.D.Disk.seen c.args.disk.now) c.args.end r.file r.ends r.short (g.D.Disk.may_leave c.args.disk.now) r.none r.durable
