use Rattle.std.proofs.Common.{[], ◌++◌, append-nil, rules}
use Rattle.std.specs.Io.KnownBytes.{Consumes}
use Rattle.std.proofs.KnownBytes.{Appends-nil, Appends-trans, Consumes-nil, Consumes-trans, Consumes-kept}
use Rattle.tree_lines.proofs.Steps.{carries_none, carries_more}
use Rattle.tree_lines.proofs.Endings.{runs_to_fault, runs_to_end, runs_to_last, runs_to_break}
use Rattle.tree_node.proofs.Common.{fits}
use Rattle.tree_lines.proofs.lines.run_lines.Goals as goal

pub loop-init : goal.loop-init
loop-init g c = record { read = []; written = []; taken = Consumes-nil _; out = Appends-nil _; carried = rw c.new-line.ensures (carries_none g.row.LEN _ _) }

-- one more piece
pub loop-preserved : goal.loop-preserved
loop-preserved g c =
    let fed = c.in-Ok-feed_all.ensures in
    record {
      read = c.loop.invariant.read ++ c.split_at.result.0.now;
      written = c.loop.invariant.written ++ fed.0;
      taken = Consumes-trans _ _ _ _ _ c.loop.invariant.taken (rw c.split_at.ensures.front c.in-Ok.ensures.bytes.0);
      out = Appends-trans _ _ _ _ _ c.loop.invariant.out fed.1;
      carried = carries_more g.row.LEN _ c.loop.line c.feed_all.new.line c.args.index.now.pairs c.loop.index.pairs c.feed_all.new.index.pairs c.loop.invariant.read c.split_at.result.0.now c.loop.invariant.written fed.0 c.loop.invariant.carried fed.2;
    }

-- a read failed
pub returns-in_default : goal.returns-in_default
returns-in_default g c =
    let taken = Consumes-kept _ _ _ _ c.loop.invariant.taken c.in_default.ensures.bytes in
    runs_to_fault g.row.LEN c.args.index.now.pairs c.loop.index.pairs _ _ _ _ _ _ c.loop.line taken c.loop.invariant.out c.loop.invariant.carried

-- the input ended
pub returns-in-Ok-end_lines : goal.returns-in-Ok-end_lines
returns-in-Ok-end_lines g c =
    let none : Consumes (g.R.Read.remaining c.loop.input) (g.R.Read.remaining c.read.new.self) [] = rw c.if-count-eq0.true at c.in-Ok.ensures.bytes.0 in
    let taken : Consumes (g.R.Read.remaining c.args.input.now) (g.R.Read.remaining c.read.new.self) c.loop.invariant.read = rw append-nil at (Consumes-trans _ _ _ _ _ c.loop.invariant.taken none) in
    runs_to_end g.row.LEN c.args.index.now.pairs c.loop.index.pairs _ _ _ _ _ _ c.loop.line taken c.loop.invariant.out c.loop.invariant.carried c.end_lines.new.index.pairs _ (c.in-Ok.ensures.bytes.1 c.if-count-eq0.true (search rules)) c.in-Ok-end_lines.ensures

-- the answer to the last line broke off
pub returns-in-Err : goal.returns-in-Err
returns-in-Err g c =
    let none : Consumes (g.R.Read.remaining c.loop.input) (g.R.Read.remaining c.read.new.self) [] = rw c.if-count-eq0.true at c.in-Ok.ensures.bytes.0 in
    let taken : Consumes (g.R.Read.remaining c.args.input.now) (g.R.Read.remaining c.read.new.self) c.loop.invariant.read = rw append-nil at (Consumes-trans _ _ _ _ _ c.loop.invariant.taken none) in
    runs_to_last g.row.LEN c.args.index.now.pairs c.loop.index.pairs _ _ _ _ _ _ c.loop.line taken c.loop.invariant.out c.loop.invariant.carried c.end_lines.new.index.pairs _ (c.in-Ok.ensures.bytes.1 c.if-count-eq0.true (search rules)) c.in-Err.ensures

-- a write failed
pub returns-in_default-feed_all : goal.returns-in_default-feed_all
returns-in_default-feed_all g c =
    let fed = c.in_default-feed_all.ensures in
    runs_to_break g.row.LEN c.args.index.now.pairs c.loop.index.pairs _ _ _ _ _ _ c.loop.line c.loop.invariant.taken c.loop.invariant.out c.loop.invariant.carried c.feed_all.new.index.pairs c.split_at.result.0.now fed.0 _ _ (rw c.split_at.ensures.front c.in-Ok.ensures.bytes.0) fed.1 fed.2

-- the input did not end
pub returns : goal.returns
returns g c = runs_to_fault g.row.LEN c.args.index.now.pairs c.loop.index.pairs _ _ _ _ _ _ c.loop.line c.loop.invariant.taken c.loop.invariant.out c.loop.invariant.carried

pub new-line-requires : goal.new-line-requires
new-line-requires g c = search fits

pub end_lines-requires : goal.end_lines-requires
end_lines-requires g c = search fits

pub feed_all-requires : goal.feed_all-requires
feed_all-requires g c = search fits
