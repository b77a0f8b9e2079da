use Rattle.tree_node.proofs.Common.{fits}
use Rattle.tree_index.proofs.index.TreeIndexOf.drop.Goals as goal

pub drop-requires : goal.drop-requires
drop-requires g c = search fits
