use Rattle.std.proofs.Common.{◌∙◌, sym}
use Rattle.tree_model.proofs.Common.{err_from_is_err_and}
use Rattle.storetool.proofs.Commits.{broke_after, broke_before}
use Rattle.storetool.proofs.session.commit.Goals as goal

-- the commit failed
pub returns-in_err-commit_writes-clause-broke_off : goal.returns-in_err-commit_writes-clause-broke_off
returns-in_err-commit_writes-clause-broke_off g c =
    let failed = err_from_is_err_and c.from_residual.result c.from_residual.ensures.1 in
    rw (failed.1) (λ durable h. broke_before g.D.Disk.is_clean g.D.Disk.may_leave durable c.args.store.now.pairs c.commit_writes.new.store.saved.files c.args.group.now.answers.items _ (c.commit_writes.ensures.crash durable h))

-- the pairs are committed, and a write failed
pub returns-in_err-write_out-clause-broke_off : goal.returns-in_err-write_out-clause-broke_off
returns-in_err-write_out-clause-broke_off g c =
    let failed = err_from_is_err_and c.from_residual-in_err-write_out.result c.from_residual-in_err-write_out.ensures.1 in
    let wrote = c.in_err-write_out.ensures in
    rw (failed.1) (λ durable h. broke_after g.D.Disk.is_clean g.D.Disk.may_leave durable c.args.store.now.pairs c.commit_writes.new.store.saved c.args.group.now.answers.items wrote.0 wrote.1 _ _ c.in_ok-commit_writes.ensures.durable wrote.2 (sym c.deref.ensures.value ∙ wrote.3))
