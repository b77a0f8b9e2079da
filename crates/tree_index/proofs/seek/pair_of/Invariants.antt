use Rattle.tree_index.proofs.seek.pair_of.Given as goal

abbrev pub ghosts-pair_by : goal.ghosts-pair_by
ghosts-pair_by g a = record { name = a.blank.name; parts = a.blank.parts }
