use Rattle.tree_node.proofs.Common.{fits}
use Rattle.tree_views.proofs.Taken.{first_progress}
use Rattle.tree_index.proofs.into_iter.IntoIterOfIterator.next.Goals as goal

pub pop_first-requires : goal.pop_first-requires
pop_first-requires g c = search fits

pub returns-clause-steps : goal.returns-clause-steps
returns-clause-steps g c = rw (← c.self.view_is) c.pop_first.ensures.pairs

pub returns-clause-goes : goal.returns-clause-goes
returns-clause-goes g c = first_progress (λ pair. pair) _ _ c.pop_first.result (returns-clause-steps g c)
