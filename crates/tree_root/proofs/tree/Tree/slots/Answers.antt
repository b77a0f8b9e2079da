use Rattle.std.proofs.Common.{arith}
use Rattle.tree_node.proofs.Common.{fits}
use mir.Syntax.{w128}
use Rattle.std.proofs.Math.Facts.{Fits-of_lt}
use Rattle.tree_root.proofs.Numbers.{pairs_few, slots_small}
use Rattle.tree_root.proofs.tree.Tree.slots.Goals as goal

pub returns-clause-slots : goal.returns-clause-slots
returns-clause-slots g c = rw c.leaf_count.ensures (pairs_few g.K.Ord.cmp c.args.self.now.arenas c.args.self.now.root c.requires.whole)

pub leaf_count-requires-room-N-Destruct : goal.leaf_count-requires-room-N-Destruct
leaf_count-requires-room-N-Destruct g c κs within = search fits

pub overflow_mul-result : goal.overflow_mul-result
overflow_mul-result g c = Fits-of_lt {w = w128} (omega (arith, slots_small g.row.LEN c.leaf_count.result c.requires.len c.leaf_count.type_inv))

pub returns-clause-small : goal.returns-clause-small
returns-clause-small g c = slots_small g.row.LEN c.leaf_count.result c.requires.len c.leaf_count.type_inv

pub leaf_count-requires : goal.leaf_count-requires
leaf_count-requires g c = search fits
