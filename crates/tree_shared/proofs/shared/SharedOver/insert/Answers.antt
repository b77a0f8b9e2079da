use Rattle.tree_node.proofs.Common.{fits}
use Rattle.tree_shared.proofs.shared.SharedOver.insert.Goals as goal

pub serve-requires-room-T-Serves : goal.serve-requires-room-T-Serves
serve-requires-room-T-Serves g c κs within = search fits

pub serve-requires-room-T-Destruct : goal.serve-requires-room-T-Destruct
serve-requires-room-T-Destruct g c κs within = search fits

pub returns-in-Ok-clause-pair : goal.returns-in-Ok-clause-pair
returns-in-Ok-clause-pair g c = rw c.in-Ok.ensures.pair at c.serve.ensures.handed_back
