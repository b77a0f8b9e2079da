use Rattle.std.proofs.Common.{◌+◌, [], ◌∷◌, ◌++◌, take, drop, get_or, sym, ap, ◌∙◌, take-append-drop}
use Rattle.tree_model.proofs.Common.{err_from_is_err_and}
use Rattle.std.proofs.KnownBytes.{Appends-nil, Appends-trans}
use Rattle.std.proofs.lemmas.Grind.{take_at_read}
use Rattle.tree_lines.proofs.Steps.{carries_none, carries_more, breaks_among}
use Rattle.tree_node.proofs.Common.{fits}
use Rattle.tree_lines.proofs.lines.feed_all.Goals as goal

pub loop-byte-init : goal.loop-byte-init
loop-byte-init g c = record { written = []; out = Appends-nil _; carried = carries_none g.row.LEN _ _ }

-- one more byte
pub loop-byte-preserved : goal.loop-byte-preserved
loop-byte-preserved g c =
    let fed = c.in_ok-feed.ensures in
    let bytes = c.args.bytes.now in
    let i = c.loop-byte.byte-index in
    record {
      written = c.loop-byte.invariant.written ++ fed.0;
      out = Appends-trans _ _ _ _ _ c.loop-byte.invariant.out fed.1;
      carried = rw (take_at_read bytes i 0 c.loop-byte-test.true).1 (carries_more g.row.LEN c.args.line.now c.loop-byte.line c.feed.new.line c.args.index.now.pairs c.loop-byte.index.pairs c.feed.new.index.pairs (take i bytes) (get_or bytes i 0 ∷ []) c.loop-byte.invariant.written fed.0 c.loop-byte.invariant.carried fed.2);
    }

-- a write failed, and the remaining bytes were not taken
pub returns-in_err-feed : goal.returns-in_err-feed
returns-in_err-feed g c =
    let failed = err_from_is_err_and c.from_residual.result c.from_residual.ensures.1 in
    let fed = c.in_err-feed.ensures in
    let bytes = c.args.bytes.now in
    let i = c.loop-byte.byte-index in
    let parts = sym (take-append-drop (i + 1) bytes) ∙ ap (λ t. t ++ drop (i + 1) bytes) (take_at_read bytes i 0 c.loop-byte-test.true).1 in
    rw (failed.1)
    (c.loop-byte.invariant.written ++ fed.0, Appends-trans _ _ _ _ _ c.loop-byte.invariant.out fed.1, breaks_among g.row.LEN c.args.line.now c.loop-byte.line c.args.index.now.pairs c.loop-byte.index.pairs c.feed.new.index.pairs bytes (take i bytes) (get_or bytes i 0 ∷ []) (drop (i + 1) bytes) c.loop-byte.invariant.written fed.0 parts c.loop-byte.invariant.carried fed.2)

pub feed-requires : goal.feed-requires
feed-requires g c = search fits
