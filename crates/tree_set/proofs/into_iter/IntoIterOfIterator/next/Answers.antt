use Rattle.std.proofs.Common.{ap, None, Some}
use Rattle.tree_node.proofs.Common.{fits}
use Rattle.tree_views.proofs.Taken.{first_progress}
use Rattle.tree_set.specs.Sets.{keys_of}
use Rattle.tree_set.proofs.into_iter.IntoIterOfIterator.next.Goals as goal

pub next-requires : goal.next-requires
next-requires g c = search fits

pub returns-in_err-element-clause-steps : goal.returns-in_err-element-clause-steps
returns-in_err-element-clause-steps g c = rw (c.from_residual.ensures, ← c.self.view_is) (ap keys_of c.in_err-element.ensures.steps.0, ap keys_of c.in_err-element.ensures.steps.1)

pub returns-in_err-element-clause-goes : goal.returns-in_err-element-clause-goes
returns-in_err-element-clause-goes g c = first_progress (λ x. x) _ _ c.from_residual.result (returns-in_err-element-clause-steps g c)

pub returns-clause-steps : goal.returns-clause-steps
returns-clause-steps g c = rw (← c.self.view_is) (ap keys_of c.in_ok-element.ensures.steps)

pub returns-clause-goes : goal.returns-clause-goes
returns-clause-goes g c = first_progress (λ x. x) _ _ (Some c.in_ok-element.element) (returns-clause-steps g c)
