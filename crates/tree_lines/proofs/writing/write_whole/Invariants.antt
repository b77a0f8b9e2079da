use Rattle.std.proofs.Common.{◌≡◌, ℕ, List, ◌++◌, length}
use Rattle.std.specs.Io.KnownBytes.{Appends}
use Rattle.tree_lines.proofs.writing.write_whole.Given as goal

-- what was written, and the rest
abbrev pub invariant-loop-rest : goal.invariant-loop-rest
invariant-loop-rest g l = record {
  part : List ℕ;
  out : Appends (g.W.Write.contents l.fn.output) (g.W.Write.contents l.output) part;
  whole : l.bytes ≡ part ++ l.rest;
}

abbrev pub decreases-loop-rest : goal.decreases-loop-rest
decreases-loop-rest g l = length l.rest
