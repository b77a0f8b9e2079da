use Rattle.tree_tests.proofs.look_ups.is_found.Given as goal

abbrev pub ghosts-is_found_by : goal.ghosts-is_found_by
ghosts-is_found_by g a = record { name = a.blank.name; parts = a.blank.parts }
