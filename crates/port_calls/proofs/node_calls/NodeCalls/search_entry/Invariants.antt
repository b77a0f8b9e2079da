use Rattle.port_calls.proofs.node_calls.NodeCalls.search_entry.Given as goal

abbrev pub ghost-found_level : goal.ghost-found_level
ghost-found_level g a = g.level
