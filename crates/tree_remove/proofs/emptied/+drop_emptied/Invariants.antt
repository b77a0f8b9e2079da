use Rattle.tree_remove.proofs.emptied.+drop_emptied.Given as goal

abbrev pub decreases-drop_emptied : goal.decreases-drop_emptied
decreases-drop_emptied g l = l.level
