use Rattle.std.specs.Prelude.{◌<◌, vec_len}
use Rattle.std.proofs.Common.{List, [], ℕ}
use Rattle.std.specs.Io.KnownBytes.{Consumes}
use Rattle.storetool.specs.Loads.{Loads}
use Rattle.storetool.specs.Session.{Session}
use Rattle.storetool.proofs.load.load.Given as goal

-- what was read so far; what is written is in no output
abbrev pub invariant-loop : goal.invariant-loop
invariant-loop g l = record {
  read : List ℕ;
  written : List ℕ;
  taken : Consumes (g.R.Read.remaining l.fn.input) (g.R.Read.remaining l.input) read;
  session : Session Loads g.D.Disk.is_clean g.D.Disk.may_leave l.fn.store.pairs read written [] l.line l.store;
  room : 0 < vec_len l.piece;
}
