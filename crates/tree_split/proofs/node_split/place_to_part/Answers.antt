use Rattle.tree_split.proofs.node_split.place_to_part.Goals as goal

pub returns-in-Internal-clause-place : goal.returns-in-Internal-clause-place
returns-in-Internal-clause-place g c = rw c.in-Internal.is c.parting_place.ensures.place

pub returns-in-Leaf-clause-place : goal.returns-in-Leaf-clause-place
returns-in-Leaf-clause-place g c = rw c.in-Leaf.is c.parting_place-in-Leaf.ensures.place
