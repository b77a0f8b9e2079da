use Rattle.tree_node.proofs.Common.{fits}
use Rattle.tree_state.proofs.state.StateOf.upsert.Goals as goal

pub upsert_prepared-requires : goal.upsert_prepared-requires
upsert_prepared-requires g c = search fits
