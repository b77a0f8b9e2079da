use Rattle.std.specs.Prelude.{◌<◌, vec_len}
use Rattle.std.proofs.Common.{List, ℕ}
use Rattle.tree_model.proofs.Common.{Appends}
use Rattle.std.specs.Io.KnownBytes.{Consumes}
use Rattle.storetool.specs.Answers.{Script}
use Rattle.storetool.specs.Session.{Session}
use Rattle.storetool.proofs.serve.serve.Given as goal

-- what was read and written so far
abbrev pub invariant-loop : goal.invariant-loop
invariant-loop g l = record {
  read : List ℕ;
  written : List ℕ;
  taken : Consumes (g.R.Read.remaining l.fn.input) (g.R.Read.remaining l.input) read;
  out : Appends (g.W.Write.contents l.fn.output) (g.W.Write.contents l.output) written;
  session : Session Script g.D.Disk.is_clean g.D.Disk.may_leave l.fn.store.pairs read written l.group.answers.items l.line l.store;
  room : 0 < vec_len l.piece;
}
