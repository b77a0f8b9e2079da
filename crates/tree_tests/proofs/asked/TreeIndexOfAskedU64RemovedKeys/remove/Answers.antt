use Rattle.tree_node.proofs.Common.{fits}
use Rattle.tree_tests.proofs.asked.TreeIndexOfAskedU64RemovedKeys.remove.Goals as goal

pub remove_sync-requires : goal.remove_sync-requires
remove_sync-requires g c = search fits
