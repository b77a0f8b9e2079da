use Rattle.std.proofs.Common.{◌∷◌, [], ◌++◌, None, take, drop, get_or, Ok, sym, take-append-drop, take_all, append-nil, refl}
use Rattle.std.proofs.lemmas.Grind.{take_at_read}
use Rattle.tree_model.proofs.Common.{err_from_is_err_and}
use Rattle.storetool.proofs.Loading.{loads}
use Rattle.storetool.proofs.Sessions.{step_none, step_then}
use Rattle.storetool.proofs.load.take_lines.Goals as goal

pub loop-byte-init : goal.loop-byte-init
loop-byte-init g c = step_none loads g.D.Disk.is_clean g.D.Disk.may_leave _ [] _ None

-- one more byte
pub loop-byte-preserved : goal.loop-byte-preserved
loop-byte-preserved g c =
    let bytes = c.args.bytes.now in
    let i = c.loop-byte.byte-index in
    rw (take_at_read bytes i 0 c.loop-byte-test.true).1
    (step_then loads g.D.Disk.is_clean g.D.Disk.may_leave {T = Unit {0}} {E = Unit {0}} (take i bytes) (get_or bytes i 0 ∷ []) [] [] [] _ _ _ _ _ _ None None None (Ok tt) c.loop-byte.invariant c.in_ok-take.ensures.taken)

-- a line is no pair
pub returns-in_err-take : goal.returns-in_err-take
returns-in_err-take g c =
    let failed = err_from_is_err_and c.from_residual.result c.from_residual.ensures.1 in
    let bytes = c.args.bytes.now in
    let i = c.loop-byte.byte-index in
    let same = c.in_err-take.ensures.refused in
    rw (failed.1, same.0, same.1) (take i bytes, drop i bytes, sym (take-append-drop i bytes), c.loop-byte.invariant, tt)

-- all bytes are taken
pub returns : goal.returns
returns g c =
    let bytes = c.args.bytes.now in
    (bytes, [], sym (append-nil bytes), rw (take_all c.loop-byte.byte-index bytes c.loop-byte-test.false) at c.loop-byte.invariant, refl)
