use Rattle.tree_cursors.proofs.iter.IterOf+K+V+LEN.get_back.Goals as goal

pub returns-clause-inside : goal.returns-clause-inside
returns-clause-inside g c = rw (← c.self.view_is) c.get_back.ensures.inside
