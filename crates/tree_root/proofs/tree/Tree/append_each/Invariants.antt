use Rattle.std.proofs.Common.{[], length}
use Rattle.std.specs.Option.{ForSome}
use Rattle.tree_root.specs.Lasts.{IsLast}
use Rattle.tree_root.specs.Runs.{Gathers}
use Rattle.tree_root.proofs.tree.Tree.append_each.Given as goal

abbrev pub invariant-loop-slot : goal.invariant-loop-slot
invariant-loop-slot g l = record {
  gathers : Gathers g.K.Ord.cmp l.fn.self l.self l.fn.run l.array.entries [];
  last : ForSome l.last (IsLast l.self);
}

abbrev pub decreases-loop-slot : goal.decreases-loop-slot
decreases-loop-slot g l = length l.array.entries
