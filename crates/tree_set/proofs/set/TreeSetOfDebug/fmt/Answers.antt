use Rattle.tree_node.proofs.Common.{fits}
use Rattle.tree_set.proofs.set.TreeSetOfDebug.fmt.Goals as goal

pub iter-elements-requires : goal.iter-elements-requires
iter-elements-requires g c = (search fits, (search fits, (search fits, search fits)))

pub next-requires : goal.next-requires
next-requires g c = (search fits, (search fits, (search fits, tt)))
