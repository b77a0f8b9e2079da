use Rattle.tree_node.proofs.Common.{fits}
use Rattle.tree_set.proofs.Keys.{keys_ascend}
use Rattle.tree_set.proofs.set.TreeSetOf.elements_ascend.Goals as goal

pub iter-requires : goal.iter-requires
iter-requires g c = (search fits, (search fits, (search fits, search fits)))

pub get-requires : goal.get-requires
get-requires g c = search fits

pub returns : goal.returns
returns g c = rw (← c.self.view_is) (keys_ascend g.K.Ord.cmp c.self.inside.index.pairs (rw c.iter.ensures at c.get.ensures.ascending))
