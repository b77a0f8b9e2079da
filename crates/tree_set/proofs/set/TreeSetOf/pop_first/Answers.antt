use Rattle.std.proofs.Common.{ap}
use Rattle.tree_node.proofs.Common.{fits}
use Rattle.tree_set.specs.Sets.{keys_of}
use Rattle.tree_set.proofs.set.TreeSetOf.pop_first.Goals as goal

pub pop_first-requires : goal.pop_first-requires
pop_first-requires g c = search fits

pub returns-in_err-element : goal.returns-in_err-element
returns-in_err-element g c = rw (c.from_residual.ensures, ← c.self.view_is) (ap keys_of c.in_err-element.ensures.pairs.0, ap keys_of c.in_err-element.ensures.pairs.1)

pub returns : goal.returns
returns g c = rw (← c.self.view_is) (ap keys_of c.in_ok-element.ensures.pairs)
