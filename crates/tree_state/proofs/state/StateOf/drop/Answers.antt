use Rattle.tree_node.proofs.Common.{fits}
use Rattle.tree_state.proofs.state.StateOf.drop.Goals as goal

pub drop-requires : goal.drop-requires
drop-requires g c = search fits
