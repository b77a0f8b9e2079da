use Rattle.tree_node.proofs.Common.{fits}
use Rattle.tree_set.proofs.Keys.{tells_key}
use Rattle.tree_set.proofs.set.TreeSetOf.contains.Goals as goal

pub contains-requires : goal.contains-requires
contains-requires g c = search fits

pub returns : goal.returns
returns g c = rw (← c.self.view_is) (tells_key g.K.Ord.cmp _ c.args.element.now _ c.contains.ensures)
