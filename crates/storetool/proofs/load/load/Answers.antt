use Rattle.std.proofs.Common.{[], ◌++◌, append-nil, None, Some, take, ◌≡◌, ◌∙◌, ap, arith, rules}
use Rattle.std.specs.Io.KnownBytes.{Consumes}
use Rattle.std.proofs.KnownBytes.{Consumes-kept, Consumes-nil, Consumes-trans}
use Rattle.tree_model.proofs.Common.{err_from_is_err_and}
use Rattle.storetool.proofs.Loading.{loads}
use Rattle.storetool.proofs.Pieces.{whole}
use Rattle.storetool.proofs.Sessions.{serves_break, serves_end, serves_fault, session_start}
use Rattle.storetool.proofs.load.load.Goals as goal

pub loop-init : goal.loop-init
loop-init g c = record {
  read = [];
  written = [];
  taken = Consumes-nil _;
  session = rw c.new-line.ensures (session_start loads g.D.Disk.is_clean g.D.Disk.may_leave c.args.store.now c.requires);
  room = search (rules, arith);
}

-- no memory for a piece: nothing was read
pub returns-in_err-piece : goal.returns-in_err-piece
returns-in_err-piece g c =
    let failed = err_from_is_err_and c.from_residual.result c.from_residual.ensures.1 in
    rw (failed.1)
    (serves_fault loads g.D.Disk.is_clean g.D.Disk.may_leave c.args.store.now c.args.store.now [] [] [] (Some []) _ _ None None (Consumes-nil _) tt (session_start loads g.D.Disk.is_clean g.D.Disk.may_leave c.args.store.now c.requires))

-- one more piece
pub loop-preserved : goal.loop-preserved
loop-preserved g c =
    let front : c.split_at.result.0.now ≡ take c.in-Ok.count c.read.new.buf = c.split_at.ensures.front ∙ ap (take c.in-Ok.count) (c.deref.ensures.value ∙ whole _ _ _ (search (rules, arith))) in
    let fed = c.in_ok-load_piece.ensures c.args.store.now.pairs c.loop.invariant.read c.loop.invariant.written c.loop.invariant.session in
    record {
      read = c.loop.invariant.read ++ c.split_at.result.0.now;
      written = c.loop.invariant.written ++ fed.0;
      taken = Consumes-trans _ _ _ _ _ c.loop.invariant.taken (rw front c.in-Ok.ensures.bytes.0);
      session = fed.2;
      room = search (rules, arith);
    }

-- a read failed
pub returns-in_default : goal.returns-in_default
returns-in_default g c =
    let taken = Consumes-kept _ _ _ _ c.loop.invariant.taken c.in_default.ensures.bytes in
    serves_fault loads g.D.Disk.is_clean g.D.Disk.may_leave c.args.store.now c.loop.store _ _ _ _ _ _ None None taken tt c.loop.invariant.session

-- the input ended
pub returns-then-count-eq0 : goal.returns-then-count-eq0
returns-then-count-eq0 g c =
    let none : Consumes (g.R.Read.remaining c.loop.input) (g.R.Read.remaining c.read.new.self) [] = rw c.if-count-eq0.true at c.in-Ok.ensures.bytes.0 in
    let taken : Consumes (g.R.Read.remaining c.args.input.now) (g.R.Read.remaining c.read.new.self) c.loop.invariant.read = rw append-nil at (Consumes-trans _ _ _ _ _ c.loop.invariant.taken none) in
    serves_end loads g.D.Disk.is_clean g.D.Disk.may_leave c.args.store.now c.loop.store _ _ _ _ _ _ None None taken tt c.loop.invariant.session c.end.new.store None c.end.result (c.in-Ok.ensures.bytes.1 c.if-count-eq0.true (search (rules, arith))) c.end.ensures

-- a line is no pair, or a commit failed
pub returns-in_err-load_piece : goal.returns-in_err-load_piece
returns-in_err-load_piece g c =
    let front : c.split_at.result.0.now ≡ take c.in-Ok.count c.read.new.buf = c.split_at.ensures.front ∙ ap (take c.in-Ok.count) (c.deref.ensures.value ∙ whole _ _ _ (search (rules, arith))) in
    let failed = err_from_is_err_and c.from_residual-in_err-load_piece.result c.from_residual-in_err-load_piece.ensures.1 in
    rw (failed.1)
    (serves_break loads g.D.Disk.is_clean g.D.Disk.may_leave c.args.store.now c.loop.store _ _ _ _ _ _ None None c.loop.invariant.taken tt c.loop.invariant.session c.split_at.result.0.now [] c.load_piece.new.line c.load_piece.new.store _ None (rw front c.in-Ok.ensures.bytes.0) c.in_err-load_piece.ensures)

-- the input did not end
pub returns : goal.returns
returns g c = serves_fault loads g.D.Disk.is_clean g.D.Disk.may_leave c.args.store.now c.loop.store _ _ _ _ _ _ None None c.loop.invariant.taken tt c.loop.invariant.session
