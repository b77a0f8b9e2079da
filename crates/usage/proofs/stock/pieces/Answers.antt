use Rattle.std.proofs.Common.{◌∙◌}
use Rattle.usage.proofs.Sums.{sum_none}
use Rattle.usage.proofs.stock.pieces.Goals as goal

-- none was left
pub returns : goal.returns
returns c = sum_none _ _ _ c.in-None.ensures.steps.0 c.loop-count.invariant.0 ∙ c.loop-count.invariant.1
