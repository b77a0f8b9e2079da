use Rattle.tree_store.proofs.store.TreeStore.size.Goals as goal

pub returns : goal.returns
returns g c = rw (← c.self.view_is) c.end.ensures
