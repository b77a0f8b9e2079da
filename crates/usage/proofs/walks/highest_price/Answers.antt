use Rattle.std.proofs.Common.{arith}
use Rattle.usage.proofs.Prices.{highest_all, highest_more, highest_none}
use Rattle.usage.proofs.walks.highest_price.Goals as goal

pub loop-price-init : goal.loop-price-init
loop-price-init c = rw c.into_iter-price-iterator.ensures.into_iter_gives (highest_none c.args.prices.now.pairs)

-- no price was left
pub returns : goal.returns
returns c = highest_all _ _ _ _ c.loop-price.invariant c.in-None.ensures.steps

-- the offer is higher
pub loop-price-preserved-then-price-highest : goal.loop-price-preserved-then-price-highest
loop-price-preserved-then-price-highest c = highest_more _ _ _ _ c.loop-price.invariant _ c.in-Some.ensures.steps _ (omega (arith, c.if-price-highest.true))

-- or it isn't
pub loop-price-preserved : goal.loop-price-preserved
loop-price-preserved c = highest_more _ _ _ _ c.loop-price.invariant _ c.in-Some.ensures.steps _ (omega (arith, c.if-price-highest.false))
