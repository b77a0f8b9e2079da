use Rattle.tree_node.proofs.Common.{fits}
use Rattle.tree_tests.proofs.asked.TreeIndexOfAskedU64RemovedKeys.remove_range.Goals as goal

pub remove_range_sync-requires : goal.remove_range_sync-requires
remove_range_sync-requires g c = search fits
