use Rattle.std.proofs.Common.{◌∙◌, sym}
use Rattle.tree_node.proofs.Common.{fits}
use Rattle.tree_index.proofs.Changed.{replaced}
use Rattle.tree_index.proofs.index.TreeIndexOf.replace_sync.Goals as goal

pub replace_value-requires : goal.replace_value-requires
replace_value-requires g c = (search fits, c.self.invariant.1)

pub invariant_of-self : goal.invariant_of-self
invariant_of-self g c = (c.self.invariant.0, c.replace_value.ensures.keys.whole, c.self.invariant.2 ∙ sym c.replace_value.ensures.keys.counted)

pub returns : goal.returns
returns g c = rw (← c.self.view_is) (replaced g.K.Ord.cmp c.self.inside.tree c.replace_value.new.self c.replace_value.ensures.keys _ _ _ c.replace_value.ensures.pairs)
