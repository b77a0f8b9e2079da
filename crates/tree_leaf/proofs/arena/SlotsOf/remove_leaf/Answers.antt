use Rattle.tree_leaf.proofs.Rooms.{lost}
use Rattle.tree_leaf.proofs.arena.SlotsOf.remove_leaf.Goals as goal

pub returns-clause-leaves : goal.returns-clause-leaves
returns-clause-leaves g c = rw (← c.id.view_is) (lost _ _ _ _ c.remove.ensures.value c.remove.ensures.updates c.remove.ensures.len c.remove.ensures.capacity)
