use Rattle.tree_node.proofs.Common.{fits}
use Rattle.tree_tests.proofs.asked.TreeIndexOfAskedU64AskedKeys.is_passed.Goals as goal

pub at_or_below-requires : goal.at_or_below-requires
at_or_below-requires g c = search fits
