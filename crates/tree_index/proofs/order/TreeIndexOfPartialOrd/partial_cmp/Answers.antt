use Rattle.tree_node.proofs.Common.{fits}
use Rattle.tree_views.proofs.Walked.{all_left}
use Rattle.tree_index.proofs.order.TreeIndexOfPartialOrd.partial_cmp.Goals as goal

pub iter-requires : goal.iter-requires
iter-requires g c = (search fits, (search fits, (search fits, search fits)))

pub iter-requires-2 : goal.iter-requires-2
iter-requires-2 g c = (search fits, (search fits, (search fits, search fits)))

pub order_of-requires : goal.order_of-requires
order_of-requires g c = (search fits, (search fits, (search fits, (rw c.iter.ensures tt, rw c.iter-2.ensures tt))))

pub returns : goal.returns
returns g c = rw (c.iter.ensures, c.iter-2.ensures, all_left g.K.Ord.cmp c.args.self.now.pairs, all_left g.K.Ord.cmp c.args.other.now.pairs) at c.order_of.ensures
