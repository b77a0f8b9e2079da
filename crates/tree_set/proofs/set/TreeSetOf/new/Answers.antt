use Rattle.std.proofs.Common.{refl}
use Rattle.tree_node.proofs.Common.{fits}
use Rattle.tree_set.proofs.set.TreeSetOf.new.Goals as goal

pub new-requires : goal.new-requires
new-requires g c = (search fits, c.requires)

pub returns : goal.returns
returns g c = rw c.new.ensures.pairs refl
