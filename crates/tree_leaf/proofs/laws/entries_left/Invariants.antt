use Rattle.tree_leaf.proofs.ChainCommon.{◌++◌, List, AreLeft}
use Rattle.tree_leaf.proofs.Rests.{IsInChain, count_left}
use Rattle.tree_leaf.proofs.laws.entries_left.Given as goal

-- the entries so far and those that are left are all
abbrev pub invariant-loop-entry : goal.invariant-loop-entry
invariant-loop-entry g l = IsInChain l.walk × ((rest : List _) → AreLeft g.D.Direction.way l.walk rest
    → AreLeft g.D.Direction.way l.fn.walk (l.entries.items ++ rest))

abbrev pub decreases-loop-entry : goal.decreases-loop-entry
decreases-loop-entry g l = count_left g.D.Direction.way l.walk
