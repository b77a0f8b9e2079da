use Rattle.port_calls.proofs.root_calls.RootCalls.cleanup_root.Given as goal

abbrev pub ghost-level_of_root : goal.ghost-level_of_root
ghost-level_of_root g a = g.level
