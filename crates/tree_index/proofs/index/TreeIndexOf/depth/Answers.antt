use Rattle.tree_root.proofs.Numbers.{pairs_bound}
use Rattle.tree_split.proofs.Tests.{packed_depth}
use Rattle.tree_index.proofs.index.TreeIndexOf.depth.Goals as goal

pub returns-in-Some-clause-bound : goal.returns-in-Some-clause-bound
returns-in-Some-clause-bound g c = rw (← c.self.view_is) (pairs_bound g.K.Ord.cmp c.self.inside.tree.arenas c.self.inside.tree.root c.self.invariant.1)

pub returns-in-Some-clause-packed : goal.returns-in-Some-clause-packed
returns-in-Some-clause-packed g c = rw (← c.self.view_is) (packed_depth g.K.Ord.cmp c.self.inside.tree.arenas c.self.inside.tree.root)
