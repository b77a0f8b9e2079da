use Rattle.std.proofs.Common.{decimal}
use Rattle.tree_lines.specs.Words.{FitsWord}
use Rattle.tree_lines.proofs.FirstWords.{unparted, unread_first, unread_second}
use Rattle.tree_lines.proofs.Decimals.{IsWord-decimal}
use Rattle.tree_lines.proofs.numbers.two_numbers_of.Goals as goal

-- there are no two words
pub returns-in_err-first : goal.returns-in_err-first
returns-in_err-first c = rw c.from_residual.ensures (unparted FitsWord decimal IsWord-decimal _ c.in_err-first.ensures)

-- the first word is not read
pub returns-in_err-number_of : goal.returns-in_err-number_of
returns-in_err-number_of c = rw c.from_residual-in_err-number_of.ensures (unread_first FitsWord decimal IsWord-decimal _ _ _ c.in_ok-first.ensures c.in_err-number_of.ensures)

-- nor is the second one
pub returns-in_err-number_of-2 : goal.returns-in_err-number_of-2
returns-in_err-number_of-2 c = rw c.from_residual-in_err-number_of-2.ensures (unread_second FitsWord decimal IsWord-decimal _ _ _ c.in_ok-first.ensures c.in_err-number_of-2.ensures)
