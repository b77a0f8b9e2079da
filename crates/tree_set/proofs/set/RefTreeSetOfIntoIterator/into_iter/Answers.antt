use Rattle.tree_node.proofs.Common.{fits}
use Rattle.tree_set.proofs.set.RefTreeSetOfIntoIterator.into_iter.Goals as goal

pub iter-requires : goal.iter-requires
iter-requires g c = search fits
