use Rattle.std.proofs.Common.{◌≡◌, ℕ, ◌+◌, List, [], ◌∷◌, ◌++◌, inl, length, drop, ◌∙◌, ap, subst, arith, length-append}
use Rattle.std.proofs.lemmas.Result.{err_from_is_err_and}
use Rattle.sqlite_disk.specs.Disk.{Holds, MoreFaults}
use Rattle.store_frames.specs.Frame.{frame, frames}
use Rattle.store_frames.proofs.Batches.{short-push}
use Rattle.store_log.proofs.AtRest.{leaves_behind, leaves_twice, done_twice, end_more}
use Rattle.store_log.proofs.frame_file.FrameFile.append_twice.Goals as goal

pub returns-in_err-write_synced-clause-crash : goal.returns-in_err-write_synced-clause-crash
returns-in_err-write_synced-clause-crash g c clean file left =
    let r = c.requires.1.1.0 (c.write_synced.ensures.clean clean) in
    inl (leaves_behind g.D.Disk.seen g.D.Disk.may_leave g.more.0 c.args.self.now r (length c.split_at.result.1.now) (g.D.Disk.may_leave c.write_synced.new.disk) c.write_synced.ensures.crash file left)

pub returns-in_err-write_synced-2-clause-crash : goal.returns-in_err-write_synced-2-clause-crash
returns-in_err-write_synced-2-clause-crash g c clean =
    let r = c.requires.1.1.0 (c.write_synced.ensures.clean (c.write_synced-2.ensures.clean clean)) in
    let behind = c.split_at.result.1.now in
    let is : behind ≡ drop 1 (frame g.more.1) ++ 0 ∷ [] = c.split_at.ensures.back ∙ ap (λ (l : List ℕ). drop 1 l) c.requires.1.1.1.0 in
    let written : Holds (g.D.Disk.seen c.write_synced.new.disk) (c.args.self.now.end + 1) behind = c.in_ok-write_synced.ensures.written (omega (arith, ap length is)) in
    leaves_twice g.D.Disk.seen g.D.Disk.may_leave g.more.0 c.args.self.now r g.more.1 behind c.requires.1.1.1.1.0 is (g.D.Disk.seen c.write_synced.new.disk) c.write_synced.ensures.others written
    (g.D.Disk.may_leave c.write_synced.new.disk) (g.D.Disk.may_leave c.write_synced-2.new.disk) c.in_ok-write_synced.ensures.durable c.write_synced-2.ensures.crash

pub returns-clause-crash : goal.returns-clause-crash
returns-clause-crash g c clean =
    let r = c.requires.1.1.0 (c.write_synced.ensures.clean (c.write_synced-2.ensures.clean clean)) in
    let behind = c.split_at.result.1.now in
    let is : behind ≡ drop 1 (frame g.more.1) ++ 0 ∷ [] = c.split_at.ensures.back ∙ ap (λ (l : List ℕ). drop 1 l) c.requires.1.1.1.0 in
    let written : Holds (g.D.Disk.seen c.write_synced.new.disk) (c.args.self.now.end + 1) behind = c.in_ok-write_synced.ensures.written (omega (arith, ap length is)) in
    leaves_twice g.D.Disk.seen g.D.Disk.may_leave g.more.0 c.args.self.now r g.more.1 behind c.requires.1.1.1.1.0 is (g.D.Disk.seen c.write_synced.new.disk) c.write_synced.ensures.others written
    (g.D.Disk.may_leave c.write_synced.new.disk) (g.D.Disk.may_leave c.write_synced-2.new.disk) c.in_ok-write_synced.ensures.durable c.write_synced-2.ensures.crash

pub returns-clause-appended : goal.returns-clause-appended
returns-clause-appended g c clean =
    let r = c.requires.1.1.0 (c.write_synced.ensures.clean (c.write_synced-2.ensures.clean clean)) in
    let behind = c.split_at.result.1.now in
    let is : behind ≡ drop 1 (frame g.more.1) ++ 0 ∷ [] = c.split_at.ensures.back ∙ ap (λ (l : List ℕ). drop 1 l) c.requires.1.1.1.0 in
    let written : Holds (g.D.Disk.seen c.write_synced.new.disk) (c.args.self.now.end + 1) behind = c.in_ok-write_synced.ensures.written (omega (arith, ap length is)) in
    let opened : Holds (g.D.Disk.seen c.write_synced-2.new.disk) c.args.self.now.end (215 ∷ []) = c.in_ok-write_synced-2.ensures.written (omega arith) in
    record {
      junk = drop (length (frames g.more.0) + 1 + length behind) (g.D.Disk.seen c.write_synced.new.disk);
      is = done_twice g.D.Disk.seen g.D.Disk.may_leave g.more.0 c.args.self.now r g.more.1 behind c.requires.1.1.1.1.0 is (g.D.Disk.seen c.write_synced.new.disk) c.write_synced.ensures.others written (g.D.Disk.seen c.write_synced-2.new.disk) c.write_synced-2.ensures.others opened;
      end = omega (arith, ap length c.requires.1.1.1.0, length-append (frame g.more.1) (0 ∷ []), end_more g.D.Disk.seen g.D.Disk.may_leave g.more.0 c.args.self.now r g.more.1);
      some = omega arith;
      short = short-push g.more.0 g.more.1 r.short c.requires.1.1.1.1.0;
      durable = c.in_ok-write_synced-2.ensures.durable;
    }

pub returns-in_err-write_synced-clause-cause : goal.returns-in_err-write_synced-clause-cause
returns-in_err-write_synced-clause-cause g c =
    let p = err_from_is_err_and c.from_residual.result c.from_residual.ensures.1 in
    rw (p.1, p.2) c.in_err-write_synced.ensures.cause

pub returns-in_err-write_synced-2-clause-cause : goal.returns-in_err-write_synced-2-clause-cause
returns-in_err-write_synced-2-clause-cause g c =
    let p = err_from_is_err_and c.from_residual-in_err-write_synced-2.result c.from_residual-in_err-write_synced-2.ensures.1 in
    let cause = c.in_err-write_synced-2.ensures.cause in
    rw (p.1, p.2) (cause.0, subst (λ (n : ℕ). MoreFaults n (g.D.Disk.faults c.write_synced-2.new.disk)) c.in_ok-write_synced.ensures.fine cause.1)
