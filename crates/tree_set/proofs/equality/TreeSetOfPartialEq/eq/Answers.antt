use Rattle.std.proofs.Common.{true, refl, ◌∙◌}
use Rattle.tree_node.proofs.Common.{fits}
use Rattle.tree_set.proofs.Keys.{keys_equal}
use Rattle.tree_set.proofs.equality.TreeSetOfPartialEq.eq.Goals as goal

pub eq-requires : goal.eq-requires
eq-requires g c = search fits

pub returns : goal.returns
returns g c = rw (← c.self.view_is, ← c.other.view_is) (c.eq.ensures ∙ keys_equal g.K.PartialEq.eq (λ u v. true) (λ u v. refl) c.self.inside.index.pairs c.other.inside.index.pairs)
