use Rattle.std.proofs.Common.{◌≡◌, ◌≤◌, ◌+◌, ◌++◌, drop, length}
use Rattle.tree_index_c.specs.Sorted.{parted, size_of}
use Rattle.tree_index_c.proofs.bytes.sorted.pairs_of.Given as goal

-- the pairs so far and those to come are all, and so are their bytes
abbrev pub invariant-loop-at : goal.invariant-loop-at
invariant-loop-at l =
    (l.pairs.items ++ parted (drop l.used l.keys) (drop l.at l.entries) ≡ parted l.keys l.entries)
    × (l.used ≤ length l.keys)
    × (l.used + size_of (drop l.at l.entries) ≡ size_of l.entries)
    × (l.at-end ≡ length l.entries)
    × (l.at ≤ l.at-end)
