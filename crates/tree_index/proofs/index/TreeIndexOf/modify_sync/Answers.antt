use Rattle.std.proofs.Common.{◌∙◌, sym}
use Rattle.tree_node.proofs.Common.{fits}
use Rattle.tree_index.proofs.Changed.{changed}
use Rattle.tree_index.proofs.index.TreeIndexOf.modify_sync.Goals as goal

pub change_value-requires : goal.change_value-requires
change_value-requires g c = (search fits, (c.self.invariant.1, rw (← c.self.view_is) at c.requires))

pub invariant_of-self : goal.invariant_of-self
invariant_of-self g c = (c.self.invariant.0, c.change_value.ensures.keys.whole, c.self.invariant.2 ∙ sym c.change_value.ensures.keys.counted)

pub returns : goal.returns
returns g c = rw (← c.self.view_is) (changed g.K.Ord.cmp c.self.inside.tree c.change_value.new.self c.change_value.ensures.keys _ _ _ c.change_value.ensures.pairs)
