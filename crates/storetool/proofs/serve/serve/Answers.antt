use Rattle.std.proofs.Common.{[], ◌++◌, append-nil, Some, take, ◌≡◌, ◌∙◌, ap, arith, rules}
use Rattle.std.specs.Io.KnownBytes.{Consumes}
use Rattle.std.proofs.KnownBytes.{Appends-nil, Appends-trans, Consumes-kept, Consumes-nil, Consumes-trans}
use Rattle.tree_model.proofs.Common.{err_from_is_err_and}
use Rattle.storetool.proofs.Scripts.{scripts}
use Rattle.storetool.proofs.Pieces.{whole}
use Rattle.storetool.proofs.Sessions.{serves_break, serves_end, serves_fault, session_start}
use Rattle.storetool.proofs.serve.serve.Goals as goal

pub loop-init : goal.loop-init
loop-init g c = record {
  read = [];
  written = [];
  taken = Consumes-nil _;
  out = Appends-nil _;
  session = rw (c.new-group.ensures, c.new-line.ensures) (session_start scripts g.D.Disk.is_clean g.D.Disk.may_leave c.args.store.now c.requires);
  room = search (rules, arith);
}

-- no memory for a piece: nothing was read
pub returns-in_err-piece : goal.returns-in_err-piece
returns-in_err-piece g c =
    let failed = err_from_is_err_and c.from_residual.result c.from_residual.ensures.1 in
    rw (failed.1)
    (serves_fault scripts g.D.Disk.is_clean g.D.Disk.may_leave c.args.store.now c.args.store.now [] [] [] (Some []) _ _ _ _ (Consumes-nil _) (Appends-nil _) (session_start scripts g.D.Disk.is_clean g.D.Disk.may_leave c.args.store.now c.requires))

-- one more piece
pub loop-preserved : goal.loop-preserved
loop-preserved g c =
    let front : c.split_at.result.0.now ≡ take c.in-Ok.count c.read.new.buf = c.split_at.ensures.front ∙ ap (take c.in-Ok.count) (c.deref.ensures.value ∙ whole _ _ _ (search (rules, arith))) in
    let fed = c.in_ok-feed_and_commit.ensures c.args.store.now.pairs c.loop.invariant.read c.loop.invariant.written c.loop.invariant.session in
    record {
      read = c.loop.invariant.read ++ c.split_at.result.0.now;
      written = c.loop.invariant.written ++ fed.0;
      taken = Consumes-trans _ _ _ _ _ c.loop.invariant.taken (rw front c.in-Ok.ensures.bytes.0);
      out = Appends-trans _ _ _ _ _ c.loop.invariant.out fed.1;
      session = fed.2;
      room = search (rules, arith);
    }

-- a read failed
pub returns-in_default : goal.returns-in_default
returns-in_default g c =
    let taken = Consumes-kept _ _ _ _ c.loop.invariant.taken c.in_default.ensures.bytes in
    serves_fault scripts g.D.Disk.is_clean g.D.Disk.may_leave c.args.store.now c.loop.store _ _ _ _ _ _ _ _ taken c.loop.invariant.out c.loop.invariant.session

-- the input ended
pub returns-then-count-eq0 : goal.returns-then-count-eq0
returns-then-count-eq0 g c =
    let none : Consumes (g.R.Read.remaining c.loop.input) (g.R.Read.remaining c.read.new.self) [] = rw c.if-count-eq0.true at c.in-Ok.ensures.bytes.0 in
    let taken : Consumes (g.R.Read.remaining c.args.input.now) (g.R.Read.remaining c.read.new.self) c.loop.invariant.read = rw append-nil at (Consumes-trans _ _ _ _ _ c.loop.invariant.taken none) in
    serves_end scripts g.D.Disk.is_clean g.D.Disk.may_leave c.args.store.now c.loop.store _ _ _ _ _ _ _ _ taken c.loop.invariant.out c.loop.invariant.session c.end.new.store _ c.end.result (c.in-Ok.ensures.bytes.1 c.if-count-eq0.true (search (rules, arith))) c.end.ensures

-- a commit or a write failed
pub returns-in_err-feed_and_commit : goal.returns-in_err-feed_and_commit
returns-in_err-feed_and_commit g c =
    let front : c.split_at.result.0.now ≡ take c.in-Ok.count c.read.new.buf = c.split_at.ensures.front ∙ ap (take c.in-Ok.count) (c.deref.ensures.value ∙ whole _ _ _ (search (rules, arith))) in
    let failed = err_from_is_err_and c.from_residual-in_err-feed_and_commit.result c.from_residual-in_err-feed_and_commit.ensures.1 in
    rw (failed.1)
    (serves_break scripts g.D.Disk.is_clean g.D.Disk.may_leave c.args.store.now c.loop.store _ _ _ _ _ _ _ _ c.loop.invariant.taken c.loop.invariant.out c.loop.invariant.session c.split_at.result.0.now c.feed_and_commit.new.group.answers.items c.feed_and_commit.new.line c.feed_and_commit.new.store _ _ (rw front c.in-Ok.ensures.bytes.0) c.in_err-feed_and_commit.ensures)

-- the input did not end
pub returns : goal.returns
returns g c = serves_fault scripts g.D.Disk.is_clean g.D.Disk.may_leave c.args.store.now c.loop.store _ _ _ _ _ _ _ _ c.loop.invariant.taken c.loop.invariant.out c.loop.invariant.session
