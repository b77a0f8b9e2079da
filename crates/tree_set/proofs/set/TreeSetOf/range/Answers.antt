use Rattle.tree_node.proofs.Common.{fits}
use Rattle.std.proofs.Common.{refl, ◌∙◌}
use Rattle.tree_model.proofs.Common.{bound_map, within}
use Rattle.tree_set.proofs.Bounded.{same_within}
use Rattle.tree_set.proofs.Keys.{keys-filter}
use Rattle.tree_set.proofs.set.TreeSetOf.range.Goals as goal

pub range-requires : goal.range-requires
range-requires g c = (search fits, (search fits, (search fits, search fits)))

pub new-requires : goal.new-requires
new-requires g c = (search fits, (search fits, (search fits, rw c.range.ensures (record { forward = refl; backward = refl }))))

pub returns : goal.returns
returns g c = λ has. rw (c.new.ensures, c.range.ensures, ← c.self.view_is, ← c.start_bound.ensures has, ← c.end_bound.ensures has) (keys-filter _ c.self.inside.index.pairs ∙ same_within g.K.Ord.cmp _ _ _ _ _ (rw (← c.self.view_is) at c.low_at-low.ensures) (rw (← c.self.view_is) at c.high_at-high.ensures))
