use Rattle.std.proofs.Common.{◌≤◌, length}
use Rattle.store_frames.proofs.Tested.{BegunSealed}
use Rattle.store_frames.proofs.scan.test_frames.Given as goal

abbrev pub invariant-loop-batch : goal.invariant-loop-batch
invariant-loop-batch l = record { tested : BegunSealed l.key l.bytes l.rest; within : length l.rest ≤ length l.bytes }

abbrev pub decreases-loop-batch : goal.decreases-loop-batch
decreases-loop-batch l = length l.rest
