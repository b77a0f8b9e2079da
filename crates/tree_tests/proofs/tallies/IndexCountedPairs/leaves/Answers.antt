use Rattle.tree_node.proofs.Common.{fits}
use Rattle.tree_tests.proofs.tallies.IndexCountedPairs.leaves.Goals as goal

pub leaf_count-requires : goal.leaf_count-requires
leaf_count-requires g c = search fits
