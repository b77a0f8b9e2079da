use Rattle.std.proofs.Common.{◌≡◌, All, length, vec_len}
use Rattle.usage_threads.specs.Inserts.{IsOfInserts}
use Rattle.usage_threads.proofs.stores.join_all.Given as goal

-- a pass of each thread that was joined
abbrev pub invariant-loop-worker : goal.invariant-loop-worker
invariant-loop-worker g l = (vec_len l.passes ≡ length l.yielded) × All (IsOfInserts 100) l.passes.items
