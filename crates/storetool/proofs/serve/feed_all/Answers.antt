use Rattle.std.proofs.Common.{◌∷◌, [], ◌++◌, ◌+◌, take, drop, get_or, Ok, sym, ap, ◌∙◌, take-append-drop, take_all, None}
use Rattle.std.proofs.lemmas.Grind.{take_at_read}
use Rattle.tree_model.proofs.Common.{err_from_is_err_and}
use Rattle.storetool.proofs.Scripts.{scripts}
use Rattle.storetool.proofs.Sessions.{step_breaks, step_none, step_then}
use Rattle.storetool.proofs.serve.feed_all.Goals as goal

pub loop-byte-init : goal.loop-byte-init
loop-byte-init g c = step_none scripts g.D.Disk.is_clean g.D.Disk.may_leave _ _ _ _

-- one more byte
pub loop-byte-preserved : goal.loop-byte-preserved
loop-byte-preserved g c =
    let bytes = c.args.bytes.now in
    let i = c.loop-byte.byte-index in
    rw (take_at_read bytes i 0 c.loop-byte-test.true).1
    (step_then scripts g.D.Disk.is_clean g.D.Disk.may_leave {T = Unit {0}} {E = Unit {0}} (take i bytes) (get_or bytes i 0 ∷ []) _ _ _ _ _ _ _ _ _ _ _ _ (Ok tt) c.loop-byte.invariant c.in_ok-feed.ensures)

-- a call failed, and the remaining bytes were not taken
pub returns-in_err-feed : goal.returns-in_err-feed
returns-in_err-feed g c =
    let failed = err_from_is_err_and c.from_residual.result c.from_residual.ensures.1 in
    let bytes = c.args.bytes.now in
    let i = c.loop-byte.byte-index in
    let parts = sym (take-append-drop (i + 1) bytes) ∙ ap (λ t. t ++ drop (i + 1) bytes) (take_at_read bytes i 0 c.loop-byte-test.true).1 in
    rw (failed.1)
    (step_breaks scripts g.D.Disk.is_clean g.D.Disk.may_leave bytes (take i bytes) (get_or bytes i 0 ∷ []) (drop (i + 1) bytes) _ _ [] [] _ _ None None _ _ c.feed.new.store _ _ _ parts c.loop-byte.invariant c.in_err-feed.ensures)

-- all bytes are taken
pub returns : goal.returns
returns g c = rw (take_all c.loop-byte.byte-index c.args.bytes.now c.loop-byte-test.false) at c.loop-byte.invariant
