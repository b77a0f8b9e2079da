use Rattle.tree_index.proofs.index.TreeIndexOf.len.Goals as goal

pub returns : goal.returns
returns g c = rw (← c.self.view_is, ← c.self.invariant.2) c.min.ensures
