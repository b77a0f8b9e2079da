use Rattle.tree_node.proofs.Common.{fits}
use Rattle.tree_index.proofs.index.TreeIndexOf.peek.Goals as goal

pub peek_entry-requires : goal.peek_entry-requires
peek_entry-requires g c = search fits
