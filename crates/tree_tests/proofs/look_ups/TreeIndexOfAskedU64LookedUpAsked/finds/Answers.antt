use Rattle.tree_node.proofs.Common.{fits}
use Rattle.tree_tests.proofs.look_ups.TreeIndexOfAskedU64LookedUpAsked.finds.Goals as goal

pub peek_entry_by-requires : goal.peek_entry_by-requires
peek_entry_by-requires g c = search fits
