use Rattle.tree_tests.proofs.look_ups.found_and_asked.Given as goal

abbrev pub ghosts-found_and_asked_by : goal.ghosts-found_and_asked_by
ghosts-found_and_asked_by g a = record { name = a.blank.name; parts = a.blank.parts }
