use Rattle.tree_node.proofs.Common.{fits}
use Rattle.shared_tests.proofs.replay.has_the_pairs.Goals as goal

pub iter-wanted-requires : goal.iter-wanted-requires
iter-wanted-requires g c = search fits

pub next-requires-in-loop-pair : goal.next-requires-in-loop-pair
next-requires-in-loop-pair g c = search fits
