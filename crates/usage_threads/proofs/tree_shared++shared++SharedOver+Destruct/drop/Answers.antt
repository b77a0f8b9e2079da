use Rattle.tree_node.proofs.Common.{fits}
use Rattle.usage_threads.proofs.tree_shared++shared++SharedOver+Destruct.drop.Goals as goal

pub drop-requires-room-T-Destruct : goal.drop-requires-room-T-Destruct
drop-requires-room-T-Destruct g c κs within = search fits
