use Rattle.tree_clean_up.proofs.places.slot_at.Goals as goal

pub returns-in-Leaf : goal.returns-in-Leaf
returns-in-Leaf g c = rw c.in-Leaf.is c.slot_at.ensures

pub returns-in-Internal : goal.returns-in-Internal
returns-in-Internal g c = rw c.in-Internal.is c.slot_at-in-Internal.ensures
