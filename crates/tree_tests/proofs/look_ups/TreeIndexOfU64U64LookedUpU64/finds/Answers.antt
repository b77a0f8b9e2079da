use Rattle.tree_node.proofs.Common.{fits}
use Rattle.tree_tests.proofs.look_ups.TreeIndexOfU64U64LookedUpU64.finds.Goals as goal

pub peek_entry_by-requires : goal.peek_entry_by-requires
peek_entry_by-requires g c = search fits
