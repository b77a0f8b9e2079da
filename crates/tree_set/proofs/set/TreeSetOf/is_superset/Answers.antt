use Rattle.tree_node.proofs.Common.{fits}
use Rattle.tree_set.proofs.set.TreeSetOf.is_superset.Goals as goal

pub is_subset-requires : goal.is_subset-requires
is_subset-requires g c = search fits
