use Rattle.std.proofs.Common.{◌≡◌, ◌++◌, drop}
use Rattle.std.specs.VecDeque.{deque_len}
use Rattle.tree_readers.proofs.queue.pass_on.Given as goal

-- the log and the queue have the same commands together
abbrev pub invariant-loop-command : goal.invariant-loop-command
invariant-loop-command g l = (l.sides.desk ≡ l.initial.sides.desk) × (drop l.sides.behind l.sides.log.items ++ l.queue.items ≡ drop l.initial.sides.behind l.initial.sides.log.items ++ l.initial.queue.items)

abbrev pub decreases-loop-command : goal.decreases-loop-command
decreases-loop-command g l = deque_len l.queue
