use Rattle.std.proofs.Common.{◌≡◌, ◌≤◌, length, nat_cmp}
use Rattle.tree_model.proofs.Common.{slice_cmp, along}
use Rattle.std.proofs.lemmas.Cmp.{nat_list_cmp_total}
use Rattle.tree_cursors.specs.Ranged.{way_of}
use Rattle.tree_index_c.specs.Entries.{entry_of}
use Rattle.tree_index_c.specs.Pairs.{pairs_between}
use Rattle.tree_index_c.proofs.Joined.{Joining}
use Rattle.tree_index_c.proofs.Walking.{Walking}
use Rattle.tree_index_c.proofs.bytes.ranges.fill_from.Given as goal

-- the keys and entries before this one are written, and the cursor has the other pairs to give
abbrev pub invariant-loop-at : goal.invariant-loop-at
invariant-loop-at l =
    let all = along (way_of l.fn.backwards) (pairs_between (slice_cmp nat_cmp) l.fn.bounds.0 l.fn.bounds.1 l.fn.index.pairs) in
    Walking nat_list_cmp_total (way_of l.fn.backwards) entry_of all l.fn.entries l.at l.entries l.cursor
    × Joining all l.fn.keys l.at l.used l.keys × (l.at-end ≡ length l.fn.entries) × (l.at ≤ l.at-end)
