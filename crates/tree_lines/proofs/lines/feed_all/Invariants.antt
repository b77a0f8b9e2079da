use Rattle.std.proofs.Common.{List, ℕ, take}
use Rattle.tree_model.proofs.Common.{Appends}
use Rattle.tree_lines.specs.Progress.{Carries}
use Rattle.tree_lines.proofs.lines.feed_all.Given as goal

-- the effect of the bytes so far
abbrev pub invariant-loop-byte : goal.invariant-loop-byte
invariant-loop-byte g l = record {
  written : List ℕ;
  out : Appends (g.W.Write.contents l.fn.output) (g.W.Write.contents l.output) written;
  carried : Carries g.row.LEN l.fn.line l.fn.index.pairs (take l.byte-index l.bytes) written l.line l.index.pairs;
}
