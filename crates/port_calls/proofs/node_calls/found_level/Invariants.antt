use Rattle.port_calls.proofs.node_calls.found_level.Given as goal

abbrev pub ghost-level_of : goal.ghost-level_of
ghost-level_of g a = g.level
