use Rattle.std.proofs.Common.{◌≡◌, length, ap, arith}
use Rattle.std.proofs.lemmas.Result.{err_from_is_err_and}
use Rattle.sqlite_disk.specs.Disk.{Holds}
use Rattle.store_frames.specs.Frame.{frame}
use Rattle.store_frames.proofs.Batches.{short-push}
use Rattle.store_log.proofs.AtRest.{leaves_once, done_once, end_more}
use Rattle.store_log.proofs.frame_file.FrameFile.append_once.Goals as goal

pub returns-in_err-write_synced-clause-crash : goal.returns-in_err-write_synced-clause-crash
returns-in_err-write_synced-clause-crash g c clean =
    let r = c.requires.1.1.0 (c.write_synced.ensures.clean clean) in
    let long : length c.args.bytes.now ≡ length (frame g.more.1) = ap length c.requires.1.1.1.0 in
    leaves_once g.D.Disk.seen g.D.Disk.may_leave g.more.0 c.args.self.now r g.more.1 c.args.bytes.now c.requires.1.1.1.1.0 c.requires.1.1.1.0 c.requires.1.1.1.1.1.0
    (g.D.Disk.may_leave c.write_synced.new.disk) (c.write_synced.ensures.mixed c.requires.1.1.1.1.1.1.1 (omega (arith, long, c.requires.1.1.1.1.0, c.requires.1.1.1.1.1.1.0)))

pub returns-clause-crash : goal.returns-clause-crash
returns-clause-crash g c clean =
    let r = c.requires.1.1.0 (c.write_synced.ensures.clean clean) in
    let long : length c.args.bytes.now ≡ length (frame g.more.1) = ap length c.requires.1.1.1.0 in
    leaves_once g.D.Disk.seen g.D.Disk.may_leave g.more.0 c.args.self.now r g.more.1 c.args.bytes.now c.requires.1.1.1.1.0 c.requires.1.1.1.0 c.requires.1.1.1.1.1.0
    (g.D.Disk.may_leave c.write_synced.new.disk) (c.write_synced.ensures.mixed c.requires.1.1.1.1.1.1.1 (omega (arith, long, c.requires.1.1.1.1.0, c.requires.1.1.1.1.1.1.0)))

pub returns-clause-appended : goal.returns-clause-appended
returns-clause-appended g c clean =
    let r = c.requires.1.1.0 (c.write_synced.ensures.clean clean) in
    let long : length c.args.bytes.now ≡ length (frame g.more.1) = ap length c.requires.1.1.1.0 in
    let written : Holds (g.D.Disk.seen c.write_synced.new.disk) c.args.self.now.end c.args.bytes.now = c.in_ok-write_synced.ensures.written (omega (arith, long)) in
    record {
      junk = r.junk;
      is = done_once g.D.Disk.seen g.D.Disk.may_leave g.more.0 c.args.self.now r g.more.1 c.args.bytes.now c.requires.1.1.1.1.0 c.requires.1.1.1.0 c.requires.1.1.1.1.1.0 (g.D.Disk.seen c.write_synced.new.disk) c.write_synced.ensures.others written;
      end = omega (arith, long, end_more g.D.Disk.seen g.D.Disk.may_leave g.more.0 c.args.self.now r g.more.1);
      some = omega (arith, c.requires.1.1.1.1.1.0);
      short = short-push g.more.0 g.more.1 r.short c.requires.1.1.1.1.0;
      durable = c.in_ok-write_synced.ensures.durable;
    }

pub returns-in_err-write_synced-clause-cause : goal.returns-in_err-write_synced-clause-cause
returns-in_err-write_synced-clause-cause g c =
    let p = err_from_is_err_and c.from_residual.result c.from_residual.ensures.1 in
    rw (p.1, p.2) c.in_err-write_synced.ensures.cause
