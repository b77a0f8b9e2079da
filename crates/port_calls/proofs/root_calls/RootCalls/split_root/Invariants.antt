use Rattle.port_calls.proofs.root_calls.RootCalls.split_root.Given as goal

abbrev pub ghost-found_level : goal.ghost-found_level
ghost-found_level g a = g.level
