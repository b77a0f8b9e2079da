use Rattle.std.proofs.Common.{◌≡◌, length}
use Rattle.tree_batches.specs.Batches.{AreFound, answer_for}
use Rattle.tree_batches.proofs.filling.answer_all.Given as goal

-- the keys before this place have their answers
abbrev pub invariant-loop-place : goal.invariant-loop-place
invariant-loop-place g l = record {
  long : length l.found ≡ 8;
  each : AreFound g.W.Answers.seen (answer_for g.W.Answers.shown g.Q.Lent.key g.K.Ord.cmp (g.A.Batched.pairs l.arenas l.root)) l.keys l.place l.found;
}
