use Rattle.tree_cut.proofs.cutting.+is_empty.Given as goal

abbrev pub decreases-is_empty : goal.decreases-is_empty
decreases-is_empty g l = l.level
