use Rattle.tree_clean_up.proofs.places.keyed_count.Goals as goal

pub returns-in-Leaf-clause-count : goal.returns-in-Leaf-clause-count
returns-in-Leaf-clause-count g c = rw c.in-Leaf.is c.count.ensures.count

pub returns-in-Internal-clause-count : goal.returns-in-Internal-clause-count
returns-in-Internal-clause-count g c = rw c.in-Internal.is c.count-in-Internal.ensures.count
