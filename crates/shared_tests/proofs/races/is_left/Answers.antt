use Rattle.tree_node.proofs.Common.{fits}
use Rattle.shared_tests.proofs.races.is_left.Goals as goal

pub replays-requires : goal.replays-requires
replays-requires g c = search fits

pub len-requires-then-ends_with : goal.len-requires-then-ends_with
len-requires-then-ends_with g c = search fits
