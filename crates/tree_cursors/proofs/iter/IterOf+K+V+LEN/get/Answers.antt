use Rattle.tree_cursors.proofs.iter.IterOf+K+V+LEN.get.Goals as goal

pub returns-clause-inside : goal.returns-clause-inside
returns-clause-inside g c = rw (← c.self.view_is) c.get.ensures.inside
