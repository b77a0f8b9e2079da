use Rattle.tree_array.proofs.array.run.array_in_turn.Goals as goal

pub invariant_of-result : goal.invariant_of-result
invariant_of-result g c =
    let order = c.in_turn-order.ensures in
    record { table = rw (rw c.counts.ensures.entries at order.names) c.requires.table; order = rw (order.count, c.counts.ensures.entries) at c.in_turn-order.result.whole }
