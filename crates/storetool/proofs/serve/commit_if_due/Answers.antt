use Rattle.storetool.proofs.Scripts.{scripts}
use Rattle.storetool.proofs.Sessions.{step_commit, step_none}
use Rattle.storetool.proofs.serve.commit_if_due.Goals as goal

pub returns-then-is_due : goal.returns-then-is_due
returns-then-is_due g c = λ line. step_commit scripts g.D.Disk.is_clean g.D.Disk.may_leave c.args.group.now.answers.items c.args.store.now c.commit.new.store _ _ line c.commit.new.group.answers.items c.commit.result c.commit.ensures.empty record { safe = c.commit.ensures.durable; wrote = c.commit.ensures.wrote; same = c.commit.ensures.pairs; broke_off = c.commit.ensures.broke_off }

pub returns : goal.returns
returns g c = λ line. step_none scripts g.D.Disk.is_clean g.D.Disk.may_leave c.args.store.now c.args.group.now.answers.items line _
