use Rattle.std.proofs.Common.{refl}
use Rattle.tree_model.proofs.Common.{err_from_is_err_and}
use Rattle.tree_lines.proofs.Pieces.{ends_text, more_begun, none_begun, piece_fails}
use Rattle.treetool.proofs.storm.write_counted.Goals as goal

-- the write of the words failed
pub returns-in_err-write_whole : goal.returns-in_err-write_whole
returns-in_err-write_whole g c =
    let failed = err_from_is_err_and c.from_residual.result c.from_residual.ensures.1 in
    rw failed.1 (piece_fails _ _ _ _ _ _ _ (none_begun _ _) refl c.in_err-write_whole.ensures)

-- only the number was left
pub returns : goal.returns
returns g c = ends_text _ _ _ _ _ (more_begun _ _ _ _ _ _ _ (none_begun _ _) refl c.in_ok-write_whole.ensures) _ c.write_number.ensures
