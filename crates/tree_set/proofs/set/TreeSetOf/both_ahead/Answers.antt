use Rattle.tree_node.proofs.Common.{fits}
use Rattle.tree_set.proofs.set.TreeSetOf.both_ahead.Goals as goal

pub ahead-requires : goal.ahead-requires
ahead-requires g c = search fits

pub ahead-requires-2 : goal.ahead-requires-2
ahead-requires-2 g c = search fits

pub returns-clause-first : goal.returns-clause-first
returns-clause-first g c = (c.ahead.ensures.same, c.ahead.ensures.ascending)

pub returns-clause-second : goal.returns-clause-second
returns-clause-second g c = (c.ahead-2.ensures.same, c.ahead-2.ensures.ascending)
