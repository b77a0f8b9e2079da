use Rattle.std.proofs.Common.{◌≡◌, ◌+◌, map, nat_cmp, sum_by}
use Rattle.tree_index.specs.Nearest.{at_or_above}
use Rattle.usage.specs.Baskets.{key_or_nothing}
use Rattle.usage.proofs.batches.cost_from.Given as goal

-- the cost so far, and that of the asks that are left
abbrev pub invariant-loop-ask : goal.invariant-loop-ask
invariant-loop-ask l = l.cost + sum_by key_or_nothing l.ask-iterator ≡ sum_by key_or_nothing (map (at_or_above nat_cmp l.fn.asks.pairs) l.fn.prices)
