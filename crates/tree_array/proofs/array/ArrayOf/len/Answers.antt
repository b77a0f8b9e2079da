use Rattle.tree_array.proofs.Lemmas.{refl, sym, count_seen, fields}
use Rattle.tree_array.proofs.array.ArrayOf.len.Goals as goal

pub returns : goal.returns
returns g c = sym (count_seen (fields refl c.counts.ensures.entries refl c.self.invariant c.self.view_is))
