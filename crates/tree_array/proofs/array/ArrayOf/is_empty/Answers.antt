use Rattle.tree_array.proofs.Lemmas.{refl, empty_iff, fields}
use Rattle.tree_array.proofs.array.ArrayOf.is_empty.Goals as goal

pub returns : goal.returns
returns g c = empty_iff (fields refl c.counts.ensures.entries refl c.self.invariant c.self.view_is)
