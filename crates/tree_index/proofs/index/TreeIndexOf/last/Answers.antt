use Rattle.tree_node.proofs.Common.{fits}
use Rattle.tree_index.proofs.Beside.{begins_back}
use Rattle.tree_index.proofs.index.TreeIndexOf.last.Goals as goal

pub returns : goal.returns
returns g c = rw (c.next_back.ensures.steps.moves, c.iter.ensures, begins_back g.K.Ord.cmp _) at c.next_back.ensures.steps.answers

pub iter-requires : goal.iter-requires
iter-requires g c = search fits

pub next_back-requires : goal.next_back-requires
next_back-requires g c = search fits
