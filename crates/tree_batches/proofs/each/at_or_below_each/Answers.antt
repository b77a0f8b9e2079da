use Rattle.std.proofs.Common.{refl}
use Rattle.tree_batches.proofs.Answered.{empty_kept}
use Rattle.tree_batches.proofs.each.at_or_below_each.Goals as goal

pub invariant_of-result : goal.invariant_of-result
invariant_of-result g c = (c.tree_of-root.ensures.tree, empty_kept _ _ _ _ c.empty.ensures)

pub returns : goal.returns
returns g c = rw (c.empty.ensures.answered, c.tree_of-root.ensures.pairs) refl
