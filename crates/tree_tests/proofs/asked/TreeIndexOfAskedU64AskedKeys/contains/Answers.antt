use Rattle.tree_node.proofs.Common.{fits}
use Rattle.tree_tests.proofs.asked.TreeIndexOfAskedU64AskedKeys.contains.Goals as goal

pub contains-requires : goal.contains-requires
contains-requires g c = search fits
