use Rattle.std.proofs.Common.{rules, refl}
use Rattle.tree_leaf.proofs.Steps.{none_read, slot_reachable, step_read, with_progress}
use Rattle.tree_leaf.proofs.iter.LinkedIterLeafOfIterator.next.Goals as goal

pub entry-requires : goal.entry-requires
entry-requires g c = (search rules, slot_reachable _ _ _ _ c.self.invariant.0 _ _ c.in_ok-slot.ensures.steps.1.1)

pub returns-in_err-slot : goal.returns-in_err-slot
returns-in_err-slot g c = rw (c.from_residual.ensures, ← c.self.view_is) (with_progress (λ walk. tt) _ _ _ _ (refl, none_read _ _ _ _ c.self.invariant.0 _ _ c.in_err-slot.ensures.steps.1))

pub returns : goal.returns
returns g c = rw (← c.self.view_is) (with_progress (λ walk. tt) _ _ _ _ (refl, step_read _ _ _ _ c.self.invariant.0 _ _ _ _ c.in_ok-slot.ensures.steps.1 c.entry.ensures))
