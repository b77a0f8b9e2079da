use Rattle.tree_node.proofs.Common.{fits}
use Rattle.shared_tests.proofs.schedules.is_left.Goals as goal

pub index-requires : goal.index-requires
index-requires g c = search fits

pub is_empty-requires : goal.is_empty-requires
is_empty-requires g c = search fits
