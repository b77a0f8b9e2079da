use Rattle.std.proofs.Common.{◌≡◌, length}
use Rattle.tree_batches.proofs.writes.find_present.Given as goal

-- an answer for each key of a batch
abbrev pub invariant-loop-place : goal.invariant-loop-place
invariant-loop-place g l = length l.found ≡ 8
