use Rattle.tree_array.proofs.Lemmas.{HasLeft}
use Rattle.tree_array.proofs.array.ArrayOf.drop.Given as goal

abbrev pub invariant-loop-place : goal.invariant-loop-place
invariant-loop-place g l = HasLeft l.initial.cells.pairs l.cells.pairs l.order 0 l.place
