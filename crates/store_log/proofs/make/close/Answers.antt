use Rattle.std.proofs.Common.{◌≡◌, inl, ℕ, List, [], ◌∷◌, true, sym, ◌∙◌, subst, arith}
use Rattle.sqlite_disk.specs.Disk.{Holds, Torn}
use Rattle.store_log.specs.Log.{IsBlank, IsClosed}
use Rattle.store_log.proofs.Fresh.{closing_leaves, closing_done, closed_already}
use Rattle.store_log.proofs.make.close.Goals as goal

pub returns-then-is_closed-clause-closed : goal.returns-then-is_closed-clause-closed
returns-then-is_closed-clause-closed g c clean =
    let shut = c.is_closed.ensures.0 c.if-is_closed.true in
    subst IsClosed (sym (c.requires.read clean)) (closed_already c.args.old.now c.requires.blank shut.0 shut.1)

pub returns-then-is_closed-clause-crash : goal.returns-then-is_closed-clause-crash
returns-then-is_closed-clause-crash g c clean file left = inl (subst IsBlank (sym (c.requires.durable file left ∙ c.requires.read clean)) c.requires.blank)

pub returns-in_err-write_synced-clause-crash : goal.returns-in_err-write_synced-clause-crash
returns-in_err-write_synced-clause-crash g c clean =
    closing_leaves c.args.old.now (g.D.Disk.seen c.args.disk.now) (g.D.Disk.may_leave c.args.disk.now) (g.D.Disk.may_leave c.write_synced.new.disk) c.requires.blank (c.requires.read (c.write_synced.ensures.clean clean)) c.requires.durable
    (λ shut. let e : c.is_closed.result ≡ true = c.is_closed.ensures.1 shut in cc (e, c.if-is_closed.false)) c.write_synced.ensures.crash

pub returns-clause-crash : goal.returns-clause-crash
returns-clause-crash g c clean =
    closing_leaves c.args.old.now (g.D.Disk.seen c.args.disk.now) (g.D.Disk.may_leave c.args.disk.now) (g.D.Disk.may_leave c.write_synced.new.disk) c.requires.blank (c.requires.read (c.write_synced.ensures.clean clean)) c.requires.durable
    (λ shut. let e : c.is_closed.result ≡ true = c.is_closed.ensures.1 shut in cc (e, c.if-is_closed.false)) c.write_synced.ensures.crash

pub returns-clause-closed : goal.returns-clause-closed
returns-clause-closed g c clean =
    let read = c.requires.read (c.write_synced.ensures.clean clean) in
    let torn = subst (λ (old : List ℕ). Torn 0 1 old (g.D.Disk.seen c.write_synced.new.disk)) read c.write_synced.ensures.others in
    let written : Holds (g.D.Disk.seen c.write_synced.new.disk) 0 (0 ∷ []) = c.in_ok-write_synced.ensures.written (omega arith) in
    closing_done c.args.old.now (g.D.Disk.seen c.write_synced.new.disk) c.requires.blank torn written
