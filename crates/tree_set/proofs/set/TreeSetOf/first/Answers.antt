use Rattle.std.proofs.Common.{ap, ◌∙◌, option_map}
use Rattle.tree_node.proofs.Common.{fits}
use Rattle.tree_set.proofs.Keys.{first_key}
use Rattle.tree_set.proofs.set.TreeSetOf.first.Goals as goal

pub first-requires : goal.first-requires
first-requires g c = search fits

pub returns-in_err-element : goal.returns-in_err-element
returns-in_err-element g c = rw (c.from_residual.ensures, ← c.self.view_is) (ap (option_map (λ p. p.0)) c.in_err-element.ensures ∙ first_key c.self.inside.index.pairs)

pub returns : goal.returns
returns g c = rw (← c.self.view_is) (ap (option_map (λ p. p.0)) c.in_ok-element.ensures ∙ first_key c.self.inside.index.pairs)
