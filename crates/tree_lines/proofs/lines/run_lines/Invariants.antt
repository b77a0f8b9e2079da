use Rattle.std.proofs.Common.{List, [], ℕ, Some}
use Rattle.tree_model.proofs.Common.{Appends}
use Rattle.std.specs.Io.KnownBytes.{Consumes}
use Rattle.tree_lines.specs.Progress.{Carries}
use Rattle.tree_lines.proofs.lines.run_lines.Given as goal

-- the effect of the bytes so far
abbrev pub invariant-loop : goal.invariant-loop
invariant-loop g l = record {
  read : List ℕ;
  written : List ℕ;
  taken : Consumes (g.R.Read.remaining l.fn.input) (g.R.Read.remaining l.input) read;
  out : Appends (g.W.Write.contents l.fn.output) (g.W.Write.contents l.output) written;
  carried : Carries g.row.LEN (Some []) l.fn.index.pairs read written l.line l.index.pairs;
}
