use Rattle.std.proofs.Common.{◌≡◌, ◌+◌, nat_cmp, sum_by}
use Rattle.tree_batches.specs.Batches.{values_for}
use Rattle.usage.specs.Baskets.{or_nothing}
use Rattle.usage.proofs.baskets.cost_of.Given as goal

-- the cost so far, and that of the items that are left
abbrev pub invariant-loop-price : goal.invariant-loop-price
invariant-loop-price l = l.cost + sum_by or_nothing l.price-iterator ≡ sum_by or_nothing (values_for nat_cmp l.fn.prices.pairs l.fn.basket)
