use Rattle.std.proofs.Common.{◌≡◌, ◌≤◌, length, min, nat_cmp}
use Rattle.tree_model.proofs.Common.{nat_cmp_total, along}
use Rattle.tree_cursors.specs.Ranged.{way_of}
use Rattle.tree_index_c.specs.Pairs.{key_of, pairs_between, value_of}
use Rattle.tree_index_c.proofs.Walking.{Walking}
use Rattle.tree_index_c.proofs.numbers.arrays.fill_arrays.Given as goal

-- the places before this one are filled, and the cursor has the others to give
abbrev pub invariant-loop-at : goal.invariant-loop-at
invariant-loop-at l =
    let all = along (way_of l.fn.backwards) (pairs_between nat_cmp l.fn.bounds.0 l.fn.bounds.1 l.fn.index.pairs) in
    Walking nat_cmp_total (way_of l.fn.backwards) key_of all l.fn.keys l.at l.keys l.cursor
    × Walking nat_cmp_total (way_of l.fn.backwards) value_of all l.fn.values l.at l.values l.cursor
    × (l.room ≡ min (length l.fn.keys) (length l.fn.values)) × (l.at ≤ l.room)
