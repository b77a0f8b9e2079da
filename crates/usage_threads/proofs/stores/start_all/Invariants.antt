use Rattle.std.proofs.Common.{◌≡◌, ◌+◌, All, vec_len}
use Rattle.tree_state.specs.Tallies.{none}
use Rattle.usage_threads.proofs.stores.start_all.Given as goal

-- a thread for each number so far, and a pass for each that is left
abbrev pub invariant-loop-worker : goal.invariant-loop-worker
invariant-loop-worker g l = (vec_len l.passes + l.worker ≡ 8) × (vec_len l.workers ≡ l.worker) × All (λ pass. pass ≡ none) l.passes.items
