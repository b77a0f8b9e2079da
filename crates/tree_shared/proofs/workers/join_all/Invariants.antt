use Rattle.std.proofs.Common.{◌≡◌, ℕ, Some, All, length, slice_get, vec_len}
use Rattle.tree_shared.specs.Workers.{AreAnswered, IsTask, OnlyInserts}
use Rattle.tree_shared.proofs.workers.join_all.Given as goal

-- the threads that were joined kept their promises
abbrev pub invariant-loop-handle : goal.invariant-loop-handle
invariant-loop-handle g l =
    (vec_len l.back ≡ length l.yielded)
    × ((gate : _) (n : ℕ) →
    ((worker : ℕ) (handle : _) → slice_get l.fn.handles.items worker ≡ Some handle → IsTask gate worker n handle.promise)
    → All (OnlyInserts n) l.back.items × AreAnswered (g.G.Gate.answers gate) (length l.yielded) n l.stopped)
