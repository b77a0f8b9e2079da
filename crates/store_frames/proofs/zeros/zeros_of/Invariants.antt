use Rattle.std.proofs.Common.{◌≡◌, ◌+◌, ◌≤◌, drop}
use Rattle.store_frames.specs.Frame.{zeros}
use Rattle.store_frames.proofs.zeros.zeros_of.Given as goal

abbrev pub invariant-loop-byte : goal.invariant-loop-byte
invariant-loop-byte l = record {
  count : l.zeros + zeros (drop l.byte-index l.bytes) ≡ zeros l.bytes;
  few : l.zeros ≤ l.byte-index;
}
