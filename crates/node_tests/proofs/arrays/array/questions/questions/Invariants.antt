use Rattle.node_tests.proofs.arrays.array.questions.questions.Given as goal

abbrev pub ghosts-questions_by : goal.ghosts-questions_by
ghosts-questions_by g a = record { name = a.blank.name; parts = a.blank.parts }
