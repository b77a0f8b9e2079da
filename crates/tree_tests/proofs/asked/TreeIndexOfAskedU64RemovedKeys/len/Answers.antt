use Rattle.tree_node.proofs.Common.{fits}
use Rattle.tree_tests.proofs.asked.TreeIndexOfAskedU64RemovedKeys.len.Goals as goal

pub len-requires : goal.len-requires
len-requires g c = search fits
