use Rattle.std.proofs.Common.{◌≡◌, is_some, map, nat_cmp}
use Rattle.tree_index.specs.Nearest.{at_or_below}
use Rattle.usage.specs.Baskets.{are_all_true}
use Rattle.usage.proofs.batches.are_covered.Given as goal

-- what is left decides
abbrev pub invariant-loop-sample : goal.invariant-loop-sample
invariant-loop-sample l = are_all_true (map is_some l.sample-iterator) ≡ are_all_true (map is_some (map (at_or_below nat_cmp l.fn.samples.pairs) l.fn.times))
