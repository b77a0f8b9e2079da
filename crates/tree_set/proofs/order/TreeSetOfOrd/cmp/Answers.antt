use Rattle.tree_node.proofs.Common.{fits}
use Rattle.std.proofs.Common.{refl, ◌∙◌, Equal}
use Rattle.tree_set.proofs.Parts.{keys_order}
use Rattle.tree_set.proofs.order.TreeSetOfOrd.cmp.Goals as goal

pub cmp-requires : goal.cmp-requires
cmp-requires g c = search fits

pub returns : goal.returns
returns g c = rw (← c.self.view_is, ← c.other.view_is) (c.cmp.ensures ∙ keys_order g.K.Ord.cmp (λ u v. Equal) (λ u v. refl) c.self.inside.index.pairs c.other.inside.index.pairs)
