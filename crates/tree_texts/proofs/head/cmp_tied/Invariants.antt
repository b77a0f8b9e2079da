use Rattle.std.proofs.Common.{◌≡◌, length, nat_cmp}
use Rattle.std.specs.Cmp.Lexicographic.{slice_cmp}
use Rattle.tree_texts.specs.Head.{head_of, AreBytes}
use Rattle.tree_texts.proofs.head.cmp_tied.Given as goal

abbrev pub invariant-loop-bytes : goal.invariant-loop-bytes
invariant-loop-bytes l = record {
  bytes : AreBytes l.bytes;
  other : AreBytes l.other;
  tied : head_of l.bytes ≡ head_of l.other;
  order : slice_cmp nat_cmp l.bytes l.other ≡ slice_cmp nat_cmp l.fn.bytes l.fn.other;
}

abbrev pub decreases-loop-bytes : goal.decreases-loop-bytes
decreases-loop-bytes l = length l.bytes
