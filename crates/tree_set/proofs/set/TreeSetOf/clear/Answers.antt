use Rattle.std.proofs.Common.{refl}
use Rattle.tree_node.proofs.Common.{fits}
use Rattle.tree_set.proofs.set.TreeSetOf.clear.Goals as goal

pub clear-requires : goal.clear-requires
clear-requires g c = search fits

pub returns : goal.returns
returns g c = rw c.clear.ensures.pairs refl
