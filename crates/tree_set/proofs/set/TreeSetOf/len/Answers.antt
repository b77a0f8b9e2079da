use Rattle.tree_node.proofs.Common.{fits}
use Rattle.std.proofs.lemmas.List.{length-map}
use Rattle.tree_set.proofs.set.TreeSetOf.len.Goals as goal

pub len-requires : goal.len-requires
len-requires g c = search fits

pub returns : goal.returns
returns g c = rw (← c.self.view_is, length-map) c.len.ensures
