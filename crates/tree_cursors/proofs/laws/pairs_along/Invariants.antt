use Rattle.tree_cursors.proofs.RangesCommon.{map, lent_entry, moves_left, way_of}
use Rattle.tree_cursors.proofs.Yields.{IsWalked}
use Rattle.tree_cursors.proofs.laws.pairs_along.Given as goal

abbrev pub invariant-loop-pair : goal.invariant-loop-pair
invariant-loop-pair g l = IsWalked g.K.Ord.cmp (way_of l.backward) (g.C.Cursor.cursor l.fn.cursor) (g.C.Cursor.cursor l.cursor) (map lent_entry l.pairs.items)

abbrev pub decreases-loop-pair : goal.decreases-loop-pair
decreases-loop-pair g l = moves_left (g.C.Cursor.cursor l.cursor)
