use Rattle.std.specs.Map.Iter.{deref}
use Rattle.tree_views.proofs.Taken.{goes_on, with_first}
use Rattle.tree_views.proofs.keys.ValuesOfIterator.next.Goals as goal

pub invariant_of-self : goal.invariant_of-self
invariant_of-self g c = (goes_on g.met.K.Ord.total (λ pair. pair.1) _ _ c.self.invariant _ c.next.ensures.steps).0

pub returns : goal.returns
returns g c = rw (c.value_of.ensures, ← c.self.view_is) (with_first (λ pair. pair.1) deref _ _ _ (goes_on g.met.K.Ord.total (λ pair. pair.1) _ _ c.self.invariant _ c.next.ensures.steps).1)
