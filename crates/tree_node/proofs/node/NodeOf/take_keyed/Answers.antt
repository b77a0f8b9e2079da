use Rattle.tree_node.proofs.node.NodeOf.take_keyed.Goals as goal

pub returns-in-Internal-clause-taken : goal.returns-in-Internal-clause-taken
returns-in-Internal-clause-taken g c = rw c.in-Internal.is ((c.take.result.0, c.take.result.1), c.take.ensures.pair, c.take.ensures.left)

pub returns-in-Leaf-clause-taken : goal.returns-in-Leaf-clause-taken
returns-in-Leaf-clause-taken g c = rw c.in-Leaf.is ((c.take-in-Leaf.result.0, c.take-in-Leaf.result.1), c.take-in-Leaf.ensures.pair, c.take-in-Leaf.ensures.left)
