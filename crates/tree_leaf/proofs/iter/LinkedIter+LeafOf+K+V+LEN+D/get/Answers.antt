use Rattle.std.proofs.Common.{rules, ◌∙◌, sym}
use Rattle.tree_leaf.proofs.Steps.{stood_reachable, stood_read}
use Rattle.tree_leaf.proofs.iter.LinkedIter+LeafOf+K+V+LEN+D.get.Goals as goal

pub entry-requires : goal.entry-requires
entry-requires g c = (search rules, stood_reachable _ _ _ _ c.self.invariant.0 _ (sym c.slot.ensures ∙ c.in_ok-slot.was))

pub returns : goal.returns
returns g c = rw (← c.self.view_is) (stood_read _ _ _ _ c.self.invariant.0 _ (sym c.slot.ensures ∙ c.in_ok-slot.was) _ c.entry.ensures)
