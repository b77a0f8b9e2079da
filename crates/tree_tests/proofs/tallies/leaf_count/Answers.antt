use Rattle.tree_node.proofs.Common.{fits}
use Rattle.tree_tests.proofs.tallies.leaf_count.Goals as goal

pub parts-requires : goal.parts-requires
parts-requires g c = search fits

pub leaf_count-requires-room-N-Destruct : goal.leaf_count-requires-room-N-Destruct
leaf_count-requires-room-N-Destruct g c κs = search fits

pub leaf_count-requires : goal.leaf_count-requires
leaf_count-requires g c = search fits
