use Rattle.tree_node.proofs.Common.{fits}
use Rattle.tree_tests.proofs.histories.keeps_each_call.Goals as goal

pub apply-requires : goal.apply-requires
apply-requires g c = search fits

pub history-requires : goal.history-requires
history-requires g c = search fits
