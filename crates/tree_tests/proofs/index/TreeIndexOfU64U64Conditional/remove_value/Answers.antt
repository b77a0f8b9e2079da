use Rattle.tree_node.proofs.Common.{fits}
use Rattle.tree_tests.proofs.index.TreeIndexOfU64U64Conditional.remove_value.Goals as goal

pub remove_if_sync-removed-requires : goal.remove_if_sync-removed-requires
remove_if_sync-removed-requires g c = search fits
