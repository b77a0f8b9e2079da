use Rattle.tree_node.proofs.Common.{fits}
use Rattle.tree_tests.proofs.asked.TreeIndexOfAskedU64AskedKeys.is_reached.Goals as goal

pub at_or_above-requires : goal.at_or_above-requires
at_or_above-requires g c = search fits
