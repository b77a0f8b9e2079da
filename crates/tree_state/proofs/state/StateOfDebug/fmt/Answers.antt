use Rattle.tree_node.proofs.Common.{fits}
use Rattle.tree_state.proofs.state.StateOfDebug.fmt.Goals as goal

pub index-requires : goal.index-requires
index-requires g c = search fits

pub write-requires-room-D-Display : goal.write-requires-room-D-Display
write-requires-room-D-Display g c κs within = search fits

pub history-history-requires : goal.history-history-requires
history-history-requires g c = search fits
