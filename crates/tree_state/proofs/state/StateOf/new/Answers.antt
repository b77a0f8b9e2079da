use Rattle.std.proofs.Common.{[], refl}
use Rattle.tree_node.proofs.Common.{fits}
use Rattle.tree_state.proofs.state.StateOf.new.Goals as goal

pub new-requires : goal.new-requires
new-requires g c = (search fits, c.requires)

pub invariant_of-result : goal.invariant_of-result
invariant_of-result g c = rw (c.new.ensures.pairs, c.new-2.ensures.items) (record { replayed = []; replays = refl; same = tt })
