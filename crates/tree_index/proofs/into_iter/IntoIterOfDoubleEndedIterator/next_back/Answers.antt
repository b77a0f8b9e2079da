use Rattle.tree_node.proofs.Common.{fits}
use Rattle.tree_views.proofs.Taken.{last_progress}
use Rattle.tree_index.proofs.into_iter.IntoIterOfDoubleEndedIterator.next_back.Goals as goal

pub pop_last-requires : goal.pop_last-requires
pop_last-requires g c = search fits

pub returns-clause-steps : goal.returns-clause-steps
returns-clause-steps g c = rw (← c.self.view_is) c.pop_last.ensures.pairs

pub returns-clause-goes : goal.returns-clause-goes
returns-clause-goes g c = last_progress (λ pair. pair) _ _ c.pop_last.result (returns-clause-steps g c)
