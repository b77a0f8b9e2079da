use Rattle.std.proofs.Common.{◌≡◌, ◌+◌, map, nat_cmp, sum_by}
use Rattle.std.specs.Cmp.Lexicographic.{slice_cmp}
use Rattle.tree_batches.specs.Batches.{values_for}
use Rattle.usage.specs.Baskets.{or_nothing}
use Rattle.usage.proofs.baskets.count_of_all.Given as goal

-- the count so far, and that of the words that are left
abbrev pub invariant-loop-count : goal.invariant-loop-count
invariant-loop-count l = l.total + sum_by or_nothing l.count-iterator ≡ sum_by or_nothing (values_for (slice_cmp nat_cmp) l.fn.counts.pairs (map (λ word. word.now) l.fn.words))
