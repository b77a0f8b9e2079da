use Rattle.tree_set.proofs.set.TreeSetOf.as_index.Goals as goal

pub returns : goal.returns
returns g c = c.self.view_is
