use Rattle.std.proofs.Common.{◌≡◌, ◌-◌, suc, length, Some}
use Rattle.tree_batches.specs.Batches.{HaveLeaves}
use Rattle.tree_batches.proofs.Descending.{AreDown}
use Rattle.tree_batches.proofs.descent.leaves_below.Given as goal

-- each key has come down to the level of this turn
abbrev pub invariant-loop : goal.invariant-loop
invariant-loop g l = record {
  long : length l.nodes ≡ 8;
  down : AreDown g.Q.Lent.key g.K.Ord.cmp l.arenas l.keys l.fn.top.level l.fn.top.id (suc l.fn.top.level - l.counter) 0 (length l.keys) l.nodes;
}

-- those before this place have come one level further
abbrev pub invariant-loop-place : goal.invariant-loop-place
invariant-loop-place g l = record {
  long : length l.nodes ≡ 8;
  done : AreDown g.Q.Lent.key g.K.Ord.cmp l.arenas l.keys l.fn.top.level l.fn.top.id (l.fn.top.level - l.counter) 0 l.place l.nodes;
  left : AreDown g.Q.Lent.key g.K.Ord.cmp l.arenas l.keys l.fn.top.level l.fn.top.id (suc l.fn.top.level - l.counter) l.place (length l.keys) l.nodes;
}

-- the keys before this place have their leaves
abbrev pub invariant-loop-place-2 : goal.invariant-loop-place-2
invariant-loop-place-2 g l = record {
  long : length l.leaves ≡ 8;
  leaves : HaveLeaves g.Q.Lent.key g.K.Ord.cmp l.arenas (Some l.fn.top) l.keys l.place l.leaves;
}
