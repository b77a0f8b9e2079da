use Rattle.std.proofs.Common.{refl}
use Rattle.tree_node.proofs.Common.{fits}
use Rattle.tree_index.proofs.index.TreeIndexOf.clear.Goals as goal

pub clear-requires : goal.clear-requires
clear-requires g c = search fits

pub invariant_of-self : goal.invariant_of-self
invariant_of-self g c = (c.self.invariant.0, c.clear.ensures.whole, rw c.clear.ensures.root refl)

pub returns-clause-pairs : goal.returns-clause-pairs
returns-clause-pairs g c = rw c.clear.ensures.root refl

pub returns-clause-depth : goal.returns-clause-depth
returns-clause-depth g c = rw c.clear.ensures.root refl

pub returns-clause-spare : goal.returns-clause-spare
returns-clause-spare g c = rw c.clear.ensures.root refl

pub returns-clause-packed : goal.returns-clause-packed
returns-clause-packed g c = rw c.clear.ensures.root refl
