use Rattle.tree_node.proofs.Common.{fits}
use Rattle.tree_set.proofs.Moves.{first_progress}
use Rattle.tree_set.proofs.intersection.IntersectionOverArenasOfUnitLeafOfUnitIterator.next.Goals as goal

pub returns-clause-goes : goal.returns-clause-goes
returns-clause-goes g c = rw (← c.self.view_is) (first_progress (λ x. x.now) _ _ _ c.common.ensures.taken)

pub common-requires : goal.common-requires
common-requires g c = search fits
