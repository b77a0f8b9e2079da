use Rattle.tree_lines.specs.Spelling.{FitsBound, bound_text}
use Rattle.tree_lines.proofs.FirstWords.{unparted, unread_first, unread_second}
use Rattle.tree_lines.proofs.Decimals.{IsWord-bound}
use Rattle.tree_lines.proofs.bounds.two_bounds_of.Goals as goal

-- there are no two words
pub returns-in_err-low : goal.returns-in_err-low
returns-in_err-low c = rw c.from_residual.ensures (unparted FitsBound bound_text IsWord-bound _ c.in_err-low.ensures)

-- the first word is not read
pub returns-in_err-bound_of : goal.returns-in_err-bound_of
returns-in_err-bound_of c = rw c.from_residual-in_err-bound_of.ensures (unread_first FitsBound bound_text IsWord-bound _ _ _ c.in_ok-low.ensures c.in_err-bound_of.ensures)

-- nor is the second one
pub returns-in_err-bound_of-2 : goal.returns-in_err-bound_of-2
returns-in_err-bound_of-2 c = rw c.from_residual-in_err-bound_of-2.ensures (unread_second FitsBound bound_text IsWord-bound _ _ _ c.in_ok-low.ensures c.in_err-bound_of-2.ensures)
