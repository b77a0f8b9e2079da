use Rattle.std.proofs.Common.{◌≡◌, ◌≤◌, length, nat_cmp}
use Rattle.tree_model.proofs.Common.{nat_cmp_total, along}
use Rattle.tree_cursors.specs.Ranged.{way_of}
use Rattle.tree_index_c.specs.Pairs.{as_pair, pairs_between}
use Rattle.tree_index_c.proofs.Walking.{Walking}
use Rattle.tree_index_c.proofs.numbers.ranges.fill_from.Given as goal

-- the places before this one are filled, and the cursor has the others to give
abbrev pub invariant-loop-at : goal.invariant-loop-at
invariant-loop-at l =
    Walking nat_cmp_total (way_of l.fn.backwards) as_pair (along (way_of l.fn.backwards) (pairs_between nat_cmp l.fn.bounds.0 l.fn.bounds.1 l.fn.index.pairs)) l.fn.places l.at l.places l.cursor
    × (l.at-end ≡ length l.fn.places) × (l.at ≤ l.at-end)
