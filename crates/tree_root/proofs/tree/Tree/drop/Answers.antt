use Rattle.tree_node.proofs.Common.{fits}
use Rattle.tree_root.proofs.tree.Tree.drop.Goals as goal

pub drop-requires-room-T-Destruct : goal.drop-requires-room-T-Destruct
drop-requires-room-T-Destruct g c κs within = search fits

pub drop-requires-room-T-Destruct-2 : goal.drop-requires-room-T-Destruct-2
drop-requires-room-T-Destruct-2 g c κs within = search fits
