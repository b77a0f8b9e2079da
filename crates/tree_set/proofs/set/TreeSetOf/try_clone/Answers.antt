use Rattle.tree_node.proofs.Common.{fits}
use Rattle.tree_set.proofs.Keys.{key_clones}
use Rattle.tree_set.proofs.set.TreeSetOf.try_clone.Goals as goal

pub try_clone-requires : goal.try_clone-requires
try_clone-requires g c = search fits

pub returns : goal.returns
returns g c = rw (← c.self.view_is) (key_clones g.K.Clone.is_clone _ c.self.inside.index.pairs _ c.in_ok-index.ensures)
