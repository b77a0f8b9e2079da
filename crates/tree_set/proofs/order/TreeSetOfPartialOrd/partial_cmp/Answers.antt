use Rattle.tree_node.proofs.Common.{fits}
use Rattle.std.proofs.Common.{refl, ◌∙◌, Some, Equal}
use Rattle.tree_set.proofs.Parts.{keys_partial}
use Rattle.tree_set.proofs.order.TreeSetOfPartialOrd.partial_cmp.Goals as goal

pub partial_cmp-requires : goal.partial_cmp-requires
partial_cmp-requires g c = search fits

pub returns : goal.returns
returns g c = rw (← c.self.view_is, ← c.other.view_is) (c.partial_cmp.ensures ∙ keys_partial g.K.PartialOrd.partial_cmp (λ u v. Some Equal) (λ u v. refl) c.self.inside.index.pairs c.other.inside.index.pairs)
