use Rattle.std.proofs.Common.{refl}
use Rattle.tree_model.proofs.Common.{err_from_is_err_and, lent}
use Rattle.tree_lines.proofs.Pieces.{ends_text, more_begun, piece_fails, told_word, told_word_fails}
use Rattle.tree_lines.proofs.pairs.write_told.Goals as goal

-- the write of the word failed
pub returns-in_err-write_whole : goal.returns-in_err-write_whole
returns-in_err-write_whole g c =
    let failed = err_from_is_err_and c.from_residual.result c.from_residual.ensures.1 in
    rw failed.1 (told_word_fails _ (lent c.args.first) (lent c.args.second) _ _ c.in_err-write_whole.ensures)

-- or that of the first pair
pub returns-in_err-write_if_any : goal.returns-in_err-write_if_any
returns-in_err-write_if_any g c =
    let failed = err_from_is_err_and c.from_residual-in_err-write_if_any.result c.from_residual-in_err-write_if_any.ensures.1 in
    let word = told_word _ (lent c.args.first) (lent c.args.second) _ _ c.in_ok-write_whole.ensures in
    rw failed.1 (piece_fails _ _ _ _ _ _ _ word refl c.in_err-write_if_any.ensures)

-- or that of the second one
pub returns-in_err-write_if_any-2 : goal.returns-in_err-write_if_any-2
returns-in_err-write_if_any-2 g c =
    let failed = err_from_is_err_and c.from_residual-in_err-write_if_any-2.result c.from_residual-in_err-write_if_any-2.ensures.1 in
    let word = told_word _ (lent c.args.first) (lent c.args.second) _ _ c.in_ok-write_whole.ensures in
    let first = more_begun _ _ _ _ _ _ _ word refl c.in_ok-write_if_any.ensures in
    rw failed.1 (piece_fails _ _ _ _ _ _ _ first refl c.in_err-write_if_any-2.ensures)

-- only the line feed was left
pub returns : goal.returns
returns g c =
    let word = told_word _ (lent c.args.first) (lent c.args.second) _ _ c.in_ok-write_whole.ensures in
    let first = more_begun _ _ _ _ _ _ _ word refl c.in_ok-write_if_any.ensures in
    let second = more_begun _ _ _ _ _ _ _ first refl c.in_ok-write_if_any-2.ensures in
    ends_text _ _ _ _ _ second _ c.write_whole-2.ensures
