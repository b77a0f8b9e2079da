use Rattle.tree_node.proofs.Common.{fits}
use Rattle.tree_node.proofs.Bare.{empty_tree}
use Rattle.tree_root.proofs.tree.Tree.new.Goals as goal

pub returns-clause-whole : goal.returns-clause-whole
returns-clause-whole g c = empty_tree g.K.Ord.cmp c.new.result c.new.ensures

pub new-requires-room-N-Destruct : goal.new-requires-room-N-Destruct
new-requires-room-N-Destruct g c κs within = search fits

pub new-requires : goal.new-requires
new-requires g c = search fits
