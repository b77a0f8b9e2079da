use Rattle.std.proofs.Common.{refl}
use Rattle.tree_model.proofs.Common.{err_from_is_err_and}
use Rattle.tree_lines.proofs.Pieces.{ends_text, more_begun, none_begun, piece_fails}
use Rattle.treetool.proofs.storm.write_storm.Goals as goal

-- the write of the calls failed
pub returns-in_err-write_counted : goal.returns-in_err-write_counted
returns-in_err-write_counted g c =
    let failed = err_from_is_err_and c.from_residual.result c.from_residual.ensures.1 in
    rw failed.1 (piece_fails _ _ _ _ _ _ _ (none_begun _ _) refl c.in_err-write_counted.ensures)

-- or that of the stored pairs
pub returns-in_err-write_counted-2 : goal.returns-in_err-write_counted-2
returns-in_err-write_counted-2 g c =
    let failed = err_from_is_err_and c.from_residual-in_err-write_counted-2.result c.from_residual-in_err-write_counted-2.ensures.1 in
    let calls = more_begun _ _ _ _ _ _ _ (none_begun _ _) refl c.in_ok-write_counted.ensures in
    rw failed.1 (piece_fails _ _ _ _ _ _ _ calls refl c.in_err-write_counted-2.ensures)

-- or that of the length
pub returns-in_err-write_counted-3 : goal.returns-in_err-write_counted-3
returns-in_err-write_counted-3 g c =
    let failed = err_from_is_err_and c.from_residual-in_err-write_counted-3.result c.from_residual-in_err-write_counted-3.ensures.1 in
    let calls = more_begun _ _ _ _ _ _ _ (none_begun _ _) refl c.in_ok-write_counted.ensures in
    let stored = more_begun _ _ _ _ _ _ _ calls refl c.in_ok-write_counted-2.ensures in
    rw failed.1 (piece_fails _ _ _ _ _ _ _ stored refl c.in_err-write_counted-3.ensures)

-- only the line feed was left
pub returns : goal.returns
returns g c =
    let calls = more_begun _ _ _ _ _ _ _ (none_begun _ _) refl c.in_ok-write_counted.ensures in
    let stored = more_begun _ _ _ _ _ _ _ calls refl c.in_ok-write_counted-2.ensures in
    let length = more_begun _ _ _ _ _ _ _ stored refl c.in_ok-write_counted-3.ensures in
    ends_text _ _ _ _ _ length _ c.write_whole.ensures
