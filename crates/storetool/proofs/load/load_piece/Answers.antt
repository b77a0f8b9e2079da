use Rattle.tree_model.proofs.Common.{err_from_is_err_and}
use Rattle.storetool.proofs.Loading.{commits_not, commits_well, load_ends, load_fails}
use Rattle.storetool.proofs.load.load_piece.Goals as goal

-- the commit failed
pub returns-in_err-commit_writes : goal.returns-in_err-commit_writes
returns-in_err-commit_writes g c =
    let failed = err_from_is_err_and c.from_residual.result c.from_residual.ensures.1 in
    let some = c.take_lines-taken.ensures in
    rw (failed.1) (load_fails g.D.Disk.is_clean g.D.Disk.may_leave c.args.bytes.now some.0 some.1 _ _ _ c.take_lines-taken.new.store c.commit_writes.new.store some.2 some.3 (commits_not g.D.Disk.is_clean g.D.Disk.may_leave c.take_lines-taken.new.store c.commit_writes.new.store c.commit_writes.ensures.pairs c.commit_writes.ensures.crash))

pub returns : goal.returns
returns g c =
    let some = c.take_lines-taken.ensures in
    load_ends g.D.Disk.is_clean g.D.Disk.may_leave c.args.bytes.now some.0 some.1 _ _ _ c.take_lines-taken.new.store c.commit_writes.new.store some.2 c.take_lines-taken.result some.4 some.3 (commits_well g.D.Disk.is_clean g.D.Disk.may_leave c.take_lines-taken.new.store c.commit_writes.new.store c.in_ok-commit_writes.ensures.durable c.commit_writes.ensures.pairs c.commit_writes.ensures.crash)
