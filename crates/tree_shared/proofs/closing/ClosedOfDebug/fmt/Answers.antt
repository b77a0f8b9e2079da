use Rattle.tree_node.proofs.Common.{fits}
use Rattle.tree_shared.proofs.closing.ClosedOfDebug.fmt.Goals as goal

pub write-requires-room-D-Display : goal.write-requires-room-D-Display
write-requires-room-D-Display g c κs within = search fits
