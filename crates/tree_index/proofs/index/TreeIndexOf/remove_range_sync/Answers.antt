use Rattle.std.proofs.Common.{arith}
use Rattle.tree_node.proofs.Common.{fits}
use Rattle.tree_index.proofs.index.TreeIndexOf.remove_range_sync.Goals as goal

pub remove_range-requires : goal.remove_range-requires
remove_range-requires g c = (search fits, c.self.invariant.1)

pub overflow_sub-self : goal.overflow_sub-self
overflow_sub-self g c = omega (arith, c.remove_range.ensures.counted, c.self.invariant.2)

pub invariant_of-self : goal.invariant_of-self
invariant_of-self g c = (c.self.invariant.0, c.remove_range.ensures.whole, omega (arith, c.remove_range.ensures.counted, c.self.invariant.2))

pub returns : goal.returns
returns g c = rw (← c.self.view_is) c.remove_range.ensures.pairs
