use Rattle.tree_node.proofs.Common.{fits}
use Rattle.tree_store.proofs.store.TreeStore.into_files.Goals as goal

pub drop-requires : goal.drop-requires
drop-requires g c = search fits
