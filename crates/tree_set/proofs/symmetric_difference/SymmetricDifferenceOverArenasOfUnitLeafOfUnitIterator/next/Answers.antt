use Rattle.tree_node.proofs.Common.{fits}
use Rattle.tree_set.proofs.Moves.{first_progress}
use Rattle.tree_set.proofs.symmetric_difference.SymmetricDifferenceOverArenasOfUnitLeafOfUnitIterator.next.Goals as goal

pub returns-clause-goes : goal.returns-clause-goes
returns-clause-goes g c = rw (← c.self.view_is) (first_progress (λ x. x.now) _ _ _ c.of_one.ensures.taken)

pub of_one-requires : goal.of_one-requires
of_one-requires g c = search fits
