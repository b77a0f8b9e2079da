use Rattle.std.proofs.Common.{ℕ, List, length, sym, ◌∙◌, subst}
use Rattle.std.proofs.lemmas.Result.{err_from_is_err_and}
use Rattle.sqlite_disk.specs.Disk.{Holds, MoreFaults, Only, Torn}
use Rattle.store_log.proofs.synced.write_synced.Goals as goal

pub returns-in_err-write_at-clause-cause : goal.returns-in_err-write_at-clause-cause
returns-in_err-write_at-clause-cause g c =
    let p = err_from_is_err_and c.from_residual.result c.from_residual.ensures.1 in
    rw (p.1, p.2) (tt, c.in_err-write_at.ensures.faults.0)

pub returns-in_err-sync-clause-cause : goal.returns-in_err-sync-clause-cause
returns-in_err-sync-clause-cause g c =
    let p = err_from_is_err_and c.from_residual-in_err-sync.result c.from_residual-in_err-sync.ensures.1 in
    let faults = subst (λ (n : ℕ). MoreFaults n (g.D.Disk.faults c.sync.new.self)) c.in_ok-write_at.ensures.faults c.in_err-sync.ensures.faults.0 in
    rw (p.1, p.2) (tt, faults)

pub returns-clause-fine : goal.returns-clause-fine
returns-clause-fine g c = c.in_ok-sync.ensures.faults ∙ c.in_ok-write_at.ensures.faults

pub returns-in_err-sync-clause-others : goal.returns-in_err-sync-clause-others
returns-in_err-sync-clause-others g c =
    subst (λ (new : List ℕ). Torn c.args.at (length c.args.bytes.now) (g.D.Disk.seen c.args.disk.now) new) (sym c.sync.ensures.seen) c.write_at.ensures.others

pub returns-in_err-sync-clause-crash : goal.returns-in_err-sync-clause-crash
returns-in_err-sync-clause-crash g c file left = c.write_at.ensures.crash file (c.sync.ensures.crash file left)

pub returns-in_err-sync-clause-mixed : goal.returns-in_err-sync-clause-mixed
returns-in_err-sync-clause-mixed g c mixing fits file left = c.write_at.ensures.mixed mixing fits file (c.sync.ensures.crash file left)

pub returns-clause-written : goal.returns-clause-written
returns-clause-written g c some =
    subst (λ (new : List ℕ). Holds new c.args.at c.args.bytes.now) (sym c.sync.ensures.seen) (c.in_ok-write_at.ensures.written some)

pub returns-clause-durable : goal.returns-clause-durable
returns-clause-durable g c = subst (λ (new : List ℕ). Only new (g.D.Disk.may_leave c.sync.new.self)) (sym c.sync.ensures.seen) c.in_ok-sync.ensures.durable

pub returns-clause-others : goal.returns-clause-others
returns-clause-others g c =
    subst (λ (new : List ℕ). Torn c.args.at (length c.args.bytes.now) (g.D.Disk.seen c.args.disk.now) new) (sym c.sync.ensures.seen) c.write_at.ensures.others

pub returns-clause-crash : goal.returns-clause-crash
returns-clause-crash g c file left = c.write_at.ensures.crash file (c.sync.ensures.crash file left)

pub returns-clause-mixed : goal.returns-clause-mixed
returns-clause-mixed g c mixing fits file left = c.write_at.ensures.mixed mixing fits file (c.sync.ensures.crash file left)
