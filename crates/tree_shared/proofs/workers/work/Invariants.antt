use Rattle.std.proofs.Common.{ℕ, ◌<◌, ◌≤◌, true}
use Rattle.tree_shared.specs.Workers.{OnlyInserts}
use Rattle.tree_shared.proofs.workers.work.Given as goal

-- each round asks the gate, and makes one call
abbrev pub invariant-loop-done : goal.invariant-loop-done
invariant-loop-done g l =
    OnlyInserts l.done l.pass
    × ((call : ℕ) → 0 < call → call ≤ l.done → g.G.Gate.answers l.gate l.worker call true)
