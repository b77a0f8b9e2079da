use Rattle.tree_node.proofs.Common.{fits}
use Rattle.tree_index.proofs.index.TreeIndexOfDebug.fmt.Goals as goal

pub iter-requires : goal.iter-requires
iter-requires g c = (search fits, (search fits, (search fits, search fits)))

pub list_pairs-requires : goal.list_pairs-requires
list_pairs-requires g c = (search fits, (search fits, search fits))

pub depth-depth-requires : goal.depth-depth-requires
depth-depth-requires g c = search fits
