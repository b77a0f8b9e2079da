use Rattle.std.proofs.Common.{[], None, append-nil}
use Rattle.tree_model.proofs.Common.{err_from_is_err_and}
use Rattle.storetool.proofs.Scripts.{scripts}
use Rattle.storetool.proofs.Sessions.{step_commit, step_stops, step_then}
use Rattle.storetool.proofs.serve.feed_and_commit.Goals as goal

pub returns-in_err-feed_all : goal.returns-in_err-feed_all
returns-in_err-feed_all g c =
    let failed = err_from_is_err_and c.from_residual.result c.from_residual.ensures.1 in
    rw (failed.1, ← append-nil c.args.bytes.now) (step_stops scripts g.D.Disk.is_clean g.D.Disk.may_leave c.args.bytes.now [] _ [] [] _ None None _ c.feed_all.new.store _ _ c.in_err-feed_all.ensures)

pub returns : goal.returns
returns g c =
    let commits = step_commit scripts g.D.Disk.is_clean g.D.Disk.may_leave c.feed_all.new.group.answers.items c.feed_all.new.store c.commit.new.store (g.W.Write.contents c.feed_all.new.output) (g.W.Write.contents c.commit.new.output) c.feed_all.new.line c.commit.new.group.answers.items c.commit.result c.commit.ensures.empty record { safe = c.commit.ensures.durable; wrote = c.commit.ensures.wrote; same = c.commit.ensures.pairs; broke_off = c.commit.ensures.broke_off } in
    rw (← append-nil c.args.bytes.now) (step_then scripts g.D.Disk.is_clean g.D.Disk.may_leave c.args.bytes.now [] _ _ _ _ _ _ _ _ _ _ _ _ c.commit.result c.in_ok-feed_all.ensures commits)
