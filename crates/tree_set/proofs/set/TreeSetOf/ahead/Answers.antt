use Rattle.tree_node.proofs.Common.{fits}
use Rattle.std.proofs.Common.{◌∙◌}
use Rattle.tree_set.proofs.set.TreeSetOf.ahead.Goals as goal

pub elements_ascend-requires : goal.elements_ascend-requires
elements_ascend-requires g c = search fits

pub iter-requires : goal.iter-requires
iter-requires g c = search fits

pub new-requires : goal.new-requires
new-requires g c = search fits

pub returns-clause-same : goal.returns-clause-same
returns-clause-same g c = c.new.ensures ∙ c.iter.ensures

pub returns-clause-ascending : goal.returns-clause-ascending
returns-clause-ascending g c = c.elements_ascend.ensures
