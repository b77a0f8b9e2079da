use Rattle.tree_node.proofs.Common.{fits}
use Rattle.tree_tests.proofs.asked.TreeIndexOfAskedU64StoredKeys.store.Goals as goal

pub new-requires : goal.new-requires
new-requires g c = search fits

pub insert_sync-requires : goal.insert_sync-requires
insert_sync-requires g c = search fits
