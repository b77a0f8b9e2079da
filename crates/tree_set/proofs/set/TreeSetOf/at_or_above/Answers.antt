use Rattle.tree_node.proofs.Common.{fits}
use Rattle.std.proofs.Common.{ap, ◌∙◌, option_map}
use Rattle.tree_set.proofs.Parts.{key_above}
use Rattle.tree_set.proofs.set.TreeSetOf.at_or_above.Goals as goal

pub at_or_above-requires : goal.at_or_above-requires
at_or_above-requires g c = search fits

pub returns-in_err-nearest : goal.returns-in_err-nearest
returns-in_err-nearest g c = rw (c.from_residual.ensures, ← c.self.view_is) (ap (option_map (λ p. p.0)) c.in_err-nearest.ensures ∙ key_above g.K.Ord.cmp c.self.inside.index.pairs c.args.element.now)

pub returns : goal.returns
returns g c = rw (← c.self.view_is) (ap (option_map (λ p. p.0)) c.in_ok-nearest.ensures ∙ key_above g.K.Ord.cmp c.self.inside.index.pairs c.args.element.now)
