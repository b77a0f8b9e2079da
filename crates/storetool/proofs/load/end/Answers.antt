use Rattle.std.proofs.Common.{[], None, refl}
use Rattle.tree_model.proofs.Common.{err_from_is_err_and, false≢true}
use Rattle.storetool.proofs.Loading.{commits, loads, loads_one}
use Rattle.storetool.proofs.Sessions.{ends_early, ends_empty, ends_line}
use Rattle.storetool.proofs.load.end.Goals as goal

-- no line is begun
pub returns-then-is_empty : goal.returns-then-is_empty
returns-then-is_empty g c =
    let done = c.commit_writes.ensures in
    ends_empty loads g.D.Disk.is_clean g.D.Disk.may_leave [] c.args.line.now c.args.store.now c.commit_writes.new.store _ _ c.commit_writes.result (c.if-is_empty.ensures.0 refl) (commits g.D.Disk.is_clean g.D.Disk.may_leave c.args.store.now c.commit_writes.new.store c.commit_writes.result done.durable done.pairs done.crash)

-- the last line is no pair
pub returns-in_err-store_pair : goal.returns-in_err-store_pair
returns-in_err-store_pair g c =
    let failed = err_from_is_err_and c.from_residual.result c.from_residual.ensures.1 in
    rw (failed.1) (ends_early loads g.D.Disk.is_clean g.D.Disk.may_leave [] c.args.line.now c.args.store.now c.store_pair.new.store None c.store_pair.ensures.saved)

-- its pair was stored
pub returns : goal.returns
returns g c =
    let pair = c.in_ok-store_pair.ensures.stored in
    let done = c.commit_writes-2.ensures in
    ends_line loads g.D.Disk.is_clean g.D.Disk.may_leave [] c.args.line.now c.args.store.now c.store_pair.new.store c.commit_writes-2.new.store [] [] _ _ c.commit_writes-2.result (λ empty. false≢true (c.if-is_empty.ensures.1 empty)) c.store_pair.ensures.saved refl (λ begun kept. loads_one _ _ begun pair.0 (pair.1 begun kept) pair.2) (commits g.D.Disk.is_clean g.D.Disk.may_leave c.store_pair.new.store c.commit_writes-2.new.store c.commit_writes-2.result done.durable done.pairs done.crash)
