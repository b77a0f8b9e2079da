use Rattle.port_calls.proofs.root_calls.level_of_root.Given as goal

abbrev pub ghost-level_of : goal.ghost-level_of
ghost-level_of g a = g.level
