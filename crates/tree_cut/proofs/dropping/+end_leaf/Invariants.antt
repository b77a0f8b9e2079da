use Rattle.tree_cut.proofs.dropping.+end_leaf.Given as goal

abbrev pub decreases-end_leaf : goal.decreases-end_leaf
decreases-end_leaf g l = l.level
