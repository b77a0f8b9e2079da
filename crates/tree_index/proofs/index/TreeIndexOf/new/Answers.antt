use Rattle.tree_node.proofs.Common.{fits}
use Rattle.tree_index.proofs.index.TreeIndexOf.new.Goals as goal

pub new-requires : goal.new-requires
new-requires g c = search fits
