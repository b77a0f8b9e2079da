use Rattle.std.proofs.Common.{◌≡◌, false, true, refl, ◌∙◌}
use Rattle.tree_node.proofs.Common.{fits}
use Rattle.tree_index.proofs.index.TreeIndexOf.from_sorted.Goals as goal

pub returns-then-not-are_ascending : goal.returns-then-not-are_ascending
returns-then-not-are_ascending g c = ((λ ascending. let wrong : false ≡ true = c.if-not-are_ascending.ensures.1 (rw c.as_slice.ensures.value ascending) in cc), refl)

pub from_sorted-requires : goal.from_sorted-requires
from_sorted-requires g c = (search fits, (c.requires, rw c.as_slice.ensures.value at (c.if-not-are_ascending.ensures.0 refl)))

pub invariant_of-result : goal.invariant_of-result
invariant_of-result g c = (c.requires, c.in-Ok.ensures.whole, rw c.in-Ok.ensures.pairs (c.len-len.ensures ∙ c.args.pairs.ok.0))

pub returns-in-Err : goal.returns-in-Err
returns-in-Err g c = rw c.as_slice.ensures.value at (c.if-not-are_ascending.ensures.0 refl)

pub returns-in-Ok : goal.returns-in-Ok
returns-in-Ok g c = (rw c.as_slice.ensures.value at (c.if-not-are_ascending.ensures.0 refl), c.in-Ok.ensures.pairs, c.in-Ok.ensures.packed)
