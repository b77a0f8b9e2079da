use Rattle.tree_node.proofs.Common.{fits}
use Rattle.tree_set.proofs.into_iter.TreeSetOfIntoIterator.into_iter.Goals as goal

pub into_index-requires : goal.into_index-requires
into_index-requires g c = search fits

pub into_iter-requires : goal.into_iter-requires
into_iter-requires g c = search fits
