use Rattle.tree_node.proofs.Common.{fits}
use Rattle.tree_set.proofs.Parts.{pairs_again}
use Rattle.tree_set.proofs.set.TreeSetOf.locate.Goals as goal

pub locate-requires : goal.locate-requires
locate-requires g c = search fits

pub returns : goal.returns
returns g c = rw (← c.self.view_is, pairs_again c.self.inside.index.pairs) c.locate.ensures
