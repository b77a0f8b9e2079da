use Rattle.tree_node.proofs.Common.{fits}
use Rattle.std.proofs.Common.{◌≡◌, false, true, refl, ap, ◌∙◌}
use Rattle.tree_set.specs.Sets.{keys_of}
use Rattle.tree_set.proofs.Parts.{keys_again}
use Rattle.tree_set.proofs.set.TreeSetOf.from_sorted.Goals as goal

pub returns-then-not-are_ascending : goal.returns-then-not-are_ascending
returns-then-not-are_ascending g c = ((λ ascending. let wrong : false ≡ true = c.if-not-are_ascending.ensures.1 (rw c.as_slice.ensures.value ascending) in cc), refl)

pub from_sorted-requires : goal.from_sorted-requires
from_sorted-requires g c = (search fits, c.requires)

pub returns-in_default : goal.returns-in_default
returns-in_default g c = rw c.as_slice.ensures.value at (c.if-not-are_ascending.ensures.0 refl)

pub returns : goal.returns
returns g c = rw c.as_slice.ensures.value at (c.if-not-are_ascending.ensures.0 refl)

pub returns-in-Ok-from_sorted : goal.returns-in-Ok-from_sorted
returns-in-Ok-from_sorted g c = (
  rw c.as_slice.ensures.value at (c.if-not-are_ascending.ensures.0 refl),
  ap keys_of c.in-Ok-from_sorted.ensures.1 ∙ ap keys_of c.in-Ok.ensures ∙ keys_again c.args.elements.items,
)
