use Rattle.std.proofs.Common.{List, ℕ, sym, subst}
use Rattle.store_restart.proofs.restart.stop.Goals as goal

pub returns-clause-left : goal.returns-clause-left
returns-clause-left g c = subst (λ (s : List ℕ). g.D.Disk.may_leave c.args.disk.now s) (sym c.sync.ensures.seen) c.crash.ensures.left
