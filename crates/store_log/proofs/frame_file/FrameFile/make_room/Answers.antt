use Rattle.std.proofs.Common.{◌≡◌, inr, ℕ, ◌+◌, List, length, drop, replicate, refl, sym, ◌∙◌, ap, subst, arith}
use Rattle.std.proofs.lemmas.Result.{err_from_is_err_and}
use Rattle.sqlite_disk.specs.Disk.{Holds, MoreFaults, Only}
use Rattle.store_frames.specs.Frame.{frames, at_rest}
use Rattle.store_log.proofs.Causes.{faults_on, no_less}
use Rattle.store_log.proofs.Returned.{given_err}
use Rattle.store_log.proofs.AtRest.{leaves_at_rest, leaves_behind, zeros_done, zeros_failed}
use Rattle.store_log.proofs.frame_file.FrameFile.make_room.Goals as goal

pub returns-then-wanted-self-clause-crash : goal.returns-then-wanted-self-clause-crash
returns-then-wanted-self-clause-crash g c clean = leaves_at_rest g.D.Disk.seen g.D.Disk.may_leave g.batches c.args.self.now (c.requires.1.1.0 clean)

pub returns-in_err-zeros-clause-crash : goal.returns-in_err-zeros-clause-crash
returns-in_err-zeros-clause-crash g c clean = leaves_at_rest g.D.Disk.seen g.D.Disk.may_leave g.batches c.args.self.now (c.requires.1.1.0 clean)

pub returns-in_err-sync-clause-crash : goal.returns-in_err-sync-clause-crash
returns-in_err-sync-clause-crash g c clean file left =
    let r = c.requires.1.1.0 (c.write_at-written.ensures.clean (c.sync.ensures.clean clean)) in
    leaves_behind g.D.Disk.seen g.D.Disk.may_leave g.batches c.args.self.now r (length c.deref.result.now) (g.D.Disk.may_leave c.write_at-written.new.self) c.write_at-written.ensures.crash file (c.sync.ensures.crash file left)

pub returns-in_err-written-clause-crash : goal.returns-in_err-written-clause-crash
returns-in_err-written-clause-crash g c clean file left =
    let r = c.requires.1.1.0 (c.write_at-written.ensures.clean (c.sync.ensures.clean clean)) in
    leaves_behind g.D.Disk.seen g.D.Disk.may_leave g.batches c.args.self.now r (length c.deref.result.now) (g.D.Disk.may_leave c.write_at-written.new.self) c.write_at-written.ensures.crash file (c.sync.ensures.crash file left)

pub returns-clause-crash : goal.returns-clause-crash
returns-clause-crash g c clean file left =
    let r = c.requires.1.1.0 (c.write_at-written.ensures.clean (c.sync.ensures.clean clean)) in
    leaves_behind g.D.Disk.seen g.D.Disk.may_leave g.batches c.args.self.now r (length c.deref.result.now) (g.D.Disk.may_leave c.write_at-written.new.self) c.write_at-written.ensures.crash file (c.sync.ensures.crash file left)

pub returns-in_err-written-clause-refused : goal.returns-in_err-written-clause-refused
returns-in_err-written-clause-refused g c =
    given_err c.from_residual-in_err-written.result (inr (
      c.in_ok-sync.ensures.usable,
      λ clean. let r = c.requires.1.1.0 (c.write_at-written.ensures.clean (c.sync.ensures.clean clean)) in record {
        junk = drop (length (frames g.batches) + 1) (g.D.Disk.seen c.write_at-written.new.self);
        is = c.sync.ensures.seen ∙ zeros_failed g.D.Disk.seen g.D.Disk.may_leave g.batches c.args.self.now r (length c.deref.result.now) (g.D.Disk.seen c.write_at-written.new.self) c.write_at-written.ensures.others;
        end = r.end;
        some = omega arith;
        short = r.short;
        durable = subst (λ (o : List ℕ). Only o (g.D.Disk.may_leave c.sync.new.self)) (sym c.sync.ensures.seen) c.in_ok-sync.ensures.durable;
      },
    ))

pub returns-clause-ok : goal.returns-clause-ok
returns-clause-ok g c clean =
    let r = c.requires.1.1.0 (c.write_at-written.ensures.clean (c.sync.ensures.clean clean)) in
    let zeros = c.deref.result.now in
    let are : zeros ≡ replicate c.max-more.result 0 = c.deref.ensures.value ∙ c.in_ok-zeros.ensures.items_if_clones_equal (λ x h. h) in
    let long : length zeros ≡ c.max-more.result = c.deref.ensures.len ∙ c.in_ok-zeros.ensures.len in
    let written : Holds (g.D.Disk.seen c.write_at-written.new.self) (c.args.self.now.end + 1) zeros = c.in_ok-written.ensures.written (omega (arith, long, c.max-more.ensures, c.max.ensures)) in
    let after = drop (length (frames g.batches) + 1 + length zeros) (g.D.Disk.seen c.write_at-written.new.self) in
    record {
      junk = after;
      is = c.sync.ensures.seen ∙ zeros_done g.D.Disk.seen g.D.Disk.may_leave g.batches c.args.self.now r c.max-more.result zeros (g.D.Disk.seen c.write_at-written.new.self) are c.write_at-written.ensures.others written ∙ ap (λ (n : ℕ). at_rest g.batches (n + 1) after) long;
      end = r.end;
      some = omega arith;
      short = r.short;
      durable = subst (λ (o : List ℕ). Only o (g.D.Disk.may_leave c.sync.new.self)) (sym c.sync.ensures.seen) c.in_ok-sync.ensures.durable;
    }

pub returns-in_err-zeros-clause-cause : goal.returns-in_err-zeros-clause-cause
returns-in_err-zeros-clause-cause g c =
    let p = err_from_is_err_and c.from_residual.result c.from_residual.ensures.1 in
    rw (p.1, p.2) refl

pub returns-in_err-sync-clause-cause : goal.returns-in_err-sync-clause-cause
returns-in_err-sync-clause-cause g c =
    let p = err_from_is_err_and c.from_residual-in_err-sync.result c.from_residual-in_err-sync.ensures.1 in
    let old = g.D.Disk.faults c.args.self.now.disk in
    let mid = g.D.Disk.faults c.write_at-written.new.self in
    rw (p.1, p.2) (faults_on old mid (g.D.Disk.faults c.sync.new.self) (no_less c.write_at-written.result old mid c.write_at-written.ensures.faults) c.in_err-sync.ensures.faults.0)

pub returns-in_err-written-clause-cause : goal.returns-in_err-written-clause-cause
returns-in_err-written-clause-cause g c =
    let p = err_from_is_err_and c.from_residual-in_err-written.result c.from_residual-in_err-written.ensures.1 in
    rw (p.1, p.2) (subst (λ (n : ℕ). MoreFaults (g.D.Disk.faults c.args.self.now.disk) n) (sym c.in_ok-sync.ensures.faults) c.in_err-written.ensures.faults.0)

pub returns-clause-fine : goal.returns-clause-fine
returns-clause-fine g c = c.in_ok-sync.ensures.faults ∙ c.in_ok-written.ensures.faults
