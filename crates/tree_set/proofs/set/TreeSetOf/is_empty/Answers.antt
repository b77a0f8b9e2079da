use Rattle.std.proofs.Common.{ap}
use Rattle.tree_node.proofs.Common.{fits}
use Rattle.tree_set.proofs.Keys.{keys-none}
use Rattle.tree_set.specs.Sets.{keys_of}
use Rattle.tree_set.proofs.set.TreeSetOf.is_empty.Goals as goal

pub is_empty-requires : goal.is_empty-requires
is_empty-requires g c = search fits

pub returns : goal.returns
returns g c = rw (← c.self.view_is) ((λ told. ap keys_of (c.is_empty.ensures.0 told)), (λ none. c.is_empty.ensures.1 (keys-none _ none)))
