use Rattle.tree_node.proofs.Common.{fits}
use Rattle.tree_set.proofs.into_iter.IntoIterOf.drop.Goals as goal

pub drop-requires : goal.drop-requires
drop-requires g c = search fits
