use Rattle.tree_cursors.proofs.Flips.{flipped_open}
use Rattle.tree_cursors.proofs.iter.IterOf+K+V+LEN.flip.Goals as goal

pub invariant_of-self : goal.invariant_of-self
invariant_of-self g c = rw c.flip.ensures.cursor (flipped_open g.K.Ord.cmp c.self.inside.range c.self.invariant)
