use Rattle.tree_cut.proofs.Common.{sym, ◌∙◌}
use Rattle.tree_cut.proofs.Nodes.{turn_here}
use Rattle.tree_cut.proofs.parts.child_at.Goals as goal

pub returns-in-Some-clause-child : goal.returns-in-Some-clause-child
returns-in-Some-clause-child g c =
    let given = rw c.in-Leaf.is at c.requires in
    rw c.in-Leaf.is (turn_here _ _ _ _ given.last given.place (sym c.id_at.ensures ∙ c.in-Some.is))

pub returns-in-Some-id_at-clause-child : goal.returns-in-Some-id_at-clause-child
returns-in-Some-id_at-clause-child g c =
    let given = rw c.in-Internal.is at c.requires in
    rw c.in-Internal.is (turn_here _ _ _ _ given.last given.place (sym c.id_at-in-Internal.ensures ∙ c.in-Some-id_at.is))
