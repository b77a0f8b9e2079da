use Rattle.port_calls.proofs.node_calls.NodeCalls.search_value.Given as goal

abbrev pub ghost-search_entry : goal.ghost-search_entry
ghost-search_entry g a = g.level
