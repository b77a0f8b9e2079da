use Rattle.std.proofs.Common.{◌≡◌, drop}
use Rattle.store_frames.specs.Frame.{are_marked}
use Rattle.store_frames.proofs.digits.are_marked.Given as goal

abbrev pub invariant-loop-byte : goal.invariant-loop-byte
invariant-loop-byte l = are_marked (drop l.byte-index l.bytes) ≡ are_marked l.bytes
