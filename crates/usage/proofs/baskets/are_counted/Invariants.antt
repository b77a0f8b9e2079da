use Rattle.std.proofs.Common.{◌≡◌, is_some, map, nat_cmp}
use Rattle.std.specs.Cmp.Lexicographic.{slice_cmp}
use Rattle.tree_batches.specs.Batches.{entries_for}
use Rattle.usage.specs.Baskets.{are_all_true}
use Rattle.usage.proofs.baskets.are_counted.Given as goal

-- what is left decides
abbrev pub invariant-loop-present : goal.invariant-loop-present
invariant-loop-present l = are_all_true l.present-iterator ≡ are_all_true (map is_some (entries_for (slice_cmp nat_cmp) l.fn.counts.pairs (map (λ word. word.now) l.fn.words)))
