use Rattle.tree_node.proofs.Common.{fits}
use Rattle.tree_set.proofs.set.TreeSetOf.iter.Goals as goal

pub keys-requires : goal.keys-requires
keys-requires g c = search fits

pub returns : goal.returns
returns g c = rw (← c.self.view_is) c.keys.ensures
