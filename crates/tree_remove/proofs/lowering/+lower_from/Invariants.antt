use Rattle.tree_remove.proofs.lowering.+lower_from.Given as goal

abbrev pub decreases-lower_from : goal.decreases-lower_from
decreases-lower_from g l = l.level
