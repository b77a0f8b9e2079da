use Rattle.tree_node.proofs.Common.{fits}
use Rattle.tree_node.proofs.Bare.{empty_tree}
use Rattle.tree_root.proofs.tree.Tree.clear.Goals as goal

pub returns-clause-whole : goal.returns-clause-whole
returns-clause-whole g c = empty_tree g.K.Ord.cmp _ c.clear.ensures.empty

pub clear-requires : goal.clear-requires
clear-requires g c = search fits

pub clear-requires-room-N-Destruct : goal.clear-requires-room-N-Destruct
clear-requires-room-N-Destruct g c κs within = search fits
