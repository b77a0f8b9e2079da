use Rattle.tree_array.proofs.Lemmas.{refl, arith, fields, kept, made_seen}
use Rattle.tree_array.proofs.array.ArrayOf.free.Goals as goal

pub returns-clause-free : goal.returns-clause-free
returns-clause-free g c = omega (arith, made_seen (fields refl refl refl c.self.invariant c.self.view_is))

pub returns-clause-sound : goal.returns-clause-sound
returns-clause-sound g c = kept (fields refl refl refl c.self.invariant c.self.view_is) g.met.K.Ord.total
