use Rattle.tree_node.proofs.Common.{fits}
use Rattle.tree_shared.proofs.shared.SharedOver.apply.Goals as goal

pub serve-requires-room-T-Serves : goal.serve-requires-room-T-Serves
serve-requires-room-T-Serves g c κs within = search fits

pub serve-requires-room-T-Destruct : goal.serve-requires-room-T-Destruct
serve-requires-room-T-Destruct g c κs within = search fits
