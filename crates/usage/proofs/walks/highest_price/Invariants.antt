use Rattle.usage.proofs.Prices.{IsHighest}
use Rattle.usage.proofs.walks.highest_price.Given as goal

-- the highest price so far and those that are left
abbrev pub invariant-loop-price : goal.invariant-loop-price
invariant-loop-price l = IsHighest l.fn.prices.pairs l.highest l.price-iterator
