use Rattle.tree_node.proofs.Common.{fits}
use Rattle.tree_tests.proofs.index.TreeIndexOfU64U64Conditional.add.Goals as goal

pub modify_sync-requires : goal.modify_sync-requires
modify_sync-requires g c = search fits
