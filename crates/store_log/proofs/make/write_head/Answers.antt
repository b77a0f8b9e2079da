use Rattle.std.proofs.Common.{[], ◌∷◌, length, arith}
use Rattle.sqlite_disk.specs.Disk.{Holds}
use Rattle.store_log.proofs.Fresh.{behind_leaves, behind_done, opening_leaves, opening_done}
use Rattle.store_log.proofs.make.write_head.Goals as goal

pub returns-in_err-write_synced-clause-crash : goal.returns-in_err-write_synced-clause-crash
returns-in_err-write_synced-clause-crash g c clean =
    let closed = c.in_ok-close.ensures.closed (c.write_synced.ensures.clean clean) in
    behind_leaves (length c.split_at.result.1.now) (g.D.Disk.seen c.close.new.disk) (g.D.Disk.may_leave c.close.new.disk) (g.D.Disk.may_leave c.write_synced.new.disk)
    (omega (arith, c.requires.whole, c.split_at.ensures.back_len)) closed c.in_ok-close.ensures.durable c.write_synced.ensures.crash

pub returns-in_err-write_synced-2-clause-crash : goal.returns-in_err-write_synced-2-clause-crash
returns-in_err-write_synced-2-clause-crash g c clean =
    let closed = c.in_ok-close.ensures.closed (c.write_synced.ensures.clean (c.write_synced-2.ensures.clean clean)) in
    let first = g.D.Disk.seen c.write_synced.new.disk in
    let written : Holds first 1 c.split_at.result.1.now = c.in_ok-write_synced.ensures.written (omega (arith, c.requires.whole, c.split_at.ensures.back_len)) in
    let staged = behind_done c.args.bytes.now c.split_at.result.1.now (g.D.Disk.seen c.close.new.disk) first c.requires.whole c.split_at.ensures.back closed c.write_synced.ensures.others written in
    opening_leaves c.args.bytes.now first (g.D.Disk.may_leave c.write_synced.new.disk) (g.D.Disk.may_leave c.write_synced-2.new.disk) c.requires.whole c.requires.head staged c.in_ok-write_synced.ensures.durable c.write_synced-2.ensures.crash

pub returns-clause-crash : goal.returns-clause-crash
returns-clause-crash g c clean =
    let closed = c.in_ok-close.ensures.closed (c.write_synced.ensures.clean (c.write_synced-2.ensures.clean clean)) in
    let first = g.D.Disk.seen c.write_synced.new.disk in
    let written : Holds first 1 c.split_at.result.1.now = c.in_ok-write_synced.ensures.written (omega (arith, c.requires.whole, c.split_at.ensures.back_len)) in
    let staged = behind_done c.args.bytes.now c.split_at.result.1.now (g.D.Disk.seen c.close.new.disk) first c.requires.whole c.split_at.ensures.back closed c.write_synced.ensures.others written in
    opening_leaves c.args.bytes.now first (g.D.Disk.may_leave c.write_synced.new.disk) (g.D.Disk.may_leave c.write_synced-2.new.disk) c.requires.whole c.requires.head staged c.in_ok-write_synced.ensures.durable c.write_synced-2.ensures.crash

pub returns-clause-written : goal.returns-clause-written
returns-clause-written g c clean =
    let closed = c.in_ok-close.ensures.closed (c.write_synced.ensures.clean (c.write_synced-2.ensures.clean clean)) in
    let first = g.D.Disk.seen c.write_synced.new.disk in
    let written : Holds first 1 c.split_at.result.1.now = c.in_ok-write_synced.ensures.written (omega (arith, c.requires.whole, c.split_at.ensures.back_len)) in
    let staged = behind_done c.args.bytes.now c.split_at.result.1.now (g.D.Disk.seen c.close.new.disk) first c.requires.whole c.split_at.ensures.back closed c.write_synced.ensures.others written in
    let opened : Holds (g.D.Disk.seen c.write_synced-2.new.disk) 0 (215 ∷ []) = c.in_ok-write_synced-2.ensures.written (omega arith) in
    opening_done c.args.bytes.now first (g.D.Disk.seen c.write_synced-2.new.disk) c.requires.head staged c.write_synced-2.ensures.others opened
