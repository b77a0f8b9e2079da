use Rattle.tree_node.proofs.Common.{fits}
use Rattle.tree_shared.proofs.shared.SharedOver.into_parts.Goals as goal

pub into_parts-state-requires : goal.into_parts-state-requires
into_parts-state-requires g c = search fits

pub into_parts-requires : goal.into_parts-requires
into_parts-requires g c = (search fits, search fits)
