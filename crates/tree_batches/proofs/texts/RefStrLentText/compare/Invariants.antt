use Rattle.tree_batches.proofs.texts.RefStrLentText.compare.Given as goal

abbrev pub ghosts-compare_text : goal.ghosts-compare_text
ghosts-compare_text a = record { name = a.blank.name; parts = a.blank.parts }
