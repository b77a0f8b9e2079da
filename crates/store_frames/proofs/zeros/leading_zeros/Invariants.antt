use Rattle.std.proofs.Common.{◌≡◌, ◌++◌, replicate, drop}
use Rattle.store_frames.proofs.zeros.leading_zeros.Given as goal

abbrev pub invariant-loop-byte : goal.invariant-loop-byte
invariant-loop-byte l = record {
  count : l.count ≡ l.byte-index;
  zeros : l.bytes ≡ replicate l.count 0 ++ drop l.count l.bytes;
}
