use Rattle.tree_node.proofs.Common.{fits}
use Rattle.std.proofs.Common.{ap, ◌∙◌}
use Rattle.tree_set.proofs.Keys.{keys-cut}
use Rattle.tree_set.specs.Sets.{keys_of}
use Rattle.tree_set.proofs.set.TreeSetOf.remove_range.Goals as goal

pub remove_range_sync-requires : goal.remove_range_sync-requires
remove_range_sync-requires g c = search fits

pub returns : goal.returns
returns g c = λ has. rw (← c.self.view_is, ← c.start_bound.ensures has, ← c.end_bound.ensures has) (ap keys_of c.remove_range_sync.ensures ∙ keys-cut g.K.Ord.cmp c.self.inside.index.pairs _ _)
