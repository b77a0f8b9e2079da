use Rattle.std.proofs.Common.{◌≡◌, ℕ, Some, length, slice_get, vec_len}
use Rattle.tree_shared.specs.Workers.{IsTask}
use Rattle.tree_shared.proofs.workers.start_all.Given as goal

-- a thread for each pass so far, with a task of its number
abbrev pub invariant-loop-pass : goal.invariant-loop-pass
invariant-loop-pass g l =
    (l.worker ≡ length l.yielded)
    × (vec_len l.handles ≡ length l.yielded)
    × ((worker : ℕ) (handle : _) → slice_get l.handles.items worker ≡ Some handle → IsTask l.gate worker l.n handle.promise)
