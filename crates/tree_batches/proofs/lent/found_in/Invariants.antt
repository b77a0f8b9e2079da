use Rattle.tree_batches.proofs.lent.found_in.Given as goal

abbrev pub ghosts-found_by : goal.ghosts-found_by
ghosts-found_by g a = record { name = a.blank.name; parts = a.blank.parts }
