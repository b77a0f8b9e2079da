use Rattle.std.specs.VecDeque.{deque_len}
use Rattle.tree_batches.proofs.Writing.{IsStoring}
use Rattle.tree_batches.proofs.writes.upsert_all.Given as goal

abbrev pub invariant-loop-pair : goal.invariant-loop-pair
invariant-loop-pair g l = IsStoring g.K.Ord.cmp l.initial.index l.initial.left.items l.left.items l.index

abbrev pub decreases-loop-pair : goal.decreases-loop-pair
decreases-loop-pair g l = deque_len l.left
