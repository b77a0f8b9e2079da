use Rattle.tree_node.proofs.Common.{fits}
use Rattle.tree_tests.proofs.numbers.TreeIndexOfU64U64Stores.store.Goals as goal

pub insert_sync-requires : goal.insert_sync-requires
insert_sync-requires g c = search fits
