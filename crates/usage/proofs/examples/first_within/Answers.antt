use Rattle.std.proofs.Common.{ℕ, List, ap, ◌∙◌}
use Rattle.tree_leaf.specs.Walks.{first_of}
use Rattle.usage.proofs.Stamps.{first_given}
use Rattle.usage.proofs.examples.first_within.Goals as goal

pub returns : goal.returns
returns c = first_given _ _ c.next.result c.next.ensures.steps ∙ ap (λ (l : List ℕ). first_of l) (c.range.ensures tt)
