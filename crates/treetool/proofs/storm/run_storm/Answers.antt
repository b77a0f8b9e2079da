use Rattle.std.proofs.Common.{false}
use Rattle.tree_shared.specs.Workers.{AreAnswered}
use Rattle.treetool.proofs.Storms.{ended_well, runs_ended}
use Rattle.treetool.proofs.storm.run_storm.Goals as goal

-- the end that was written is that of this storm
pub returns-clause-line : goal.returns-clause-line
returns-clause-line g c =
    let ran = c.run_workers-ended.ensures in
    let wrote = c.write_end.ensures in
    runs_ended _ _ c.run_workers-ended.result _ wrote.refused (λ closed. closed.history.items) (λ closed. closed.index.pairs) (λ closed. closed.tally) (c.args.workers, c.args.pairs)
    ran.replays ran.tally ran.inserts wrote.closed

-- with status 0 it was closed, and so no worker was stopped
pub returns-clause-passed : goal.returns-clause-passed
returns-clause-passed g c =
    ended_well _ _ c.run_workers-ended.result _ c.write_end.ensures.refused (AreAnswered (g.G.Gate.answers c.args.gate.now) c.args.workers c.args.pairs false) c.run_workers-ended.ensures.passed
