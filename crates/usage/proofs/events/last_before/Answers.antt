use Rattle.std.proofs.Common.{ap, ◌∙◌, List}
use Rattle.tree_leaf.specs.Walks.{last_of}
use Rattle.usage.proofs.Stamps.{are_earlier, last_given}
use Rattle.usage.specs.declared.events.Stamp.{Stamp}
use Rattle.usage.proofs.events.last_before.Goals as goal

pub returns : goal.returns
returns c = last_given _ _ c.next_back.result c.next_back.ensures.steps ∙ ap (λ (l : List Stamp). last_of l) (c.range.ensures tt ∙ are_earlier c.args.time c.args.events.now)
