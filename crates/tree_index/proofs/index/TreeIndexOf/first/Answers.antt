use Rattle.tree_node.proofs.Common.{fits}
use Rattle.tree_index.proofs.Beside.{begins}
use Rattle.tree_index.proofs.index.TreeIndexOf.first.Goals as goal

pub returns : goal.returns
returns g c = rw (c.next.ensures.steps.moves, c.iter.ensures, begins g.K.Ord.cmp _) at c.next.ensures.steps.answers

pub iter-requires : goal.iter-requires
iter-requires g c = search fits

pub next-requires : goal.next-requires
next-requires g c = search fits
