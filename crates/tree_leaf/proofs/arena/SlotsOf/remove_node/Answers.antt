use Rattle.tree_leaf.proofs.Rooms.{lost}
use Rattle.tree_leaf.proofs.arena.SlotsOf.remove_node.Goals as goal

pub returns-clause-nodes : goal.returns-clause-nodes
returns-clause-nodes g c = rw (← c.id.view_is) (lost _ _ _ _ c.remove.ensures.value c.remove.ensures.updates c.remove.ensures.len c.remove.ensures.capacity)
