use Rattle.tree_node.proofs.Common.{fits}
use Rattle.tree_index.proofs.index.TreeIndexOfSeeks.seek.Goals as goal

pub peek_entry_by-requires : goal.peek_entry_by-requires
peek_entry_by-requires g c = search fits
