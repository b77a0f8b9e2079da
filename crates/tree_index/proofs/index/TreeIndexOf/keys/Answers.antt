use Rattle.tree_node.proofs.Common.{fits}
use Rattle.std.proofs.Common.{refl}
use Rattle.tree_views.proofs.Walked.{all_left}
use Rattle.tree_index.proofs.index.TreeIndexOf.keys.Goals as goal

pub returns : goal.returns
returns g c = rw (c.new.ensures, c.iter.ensures, all_left g.K.Ord.cmp c.args.self.now.pairs) refl

pub iter-requires : goal.iter-requires
iter-requires g c = search fits
