use Rattle.std.proofs.Common.{◌∙◌, ap, sym}
use Rattle.std.specs.Cmp.Lexicographic.{texts_ties}
use Rattle.std.specs.Ordering.{is_eq}
use Rattle.tree_texts.proofs.head.eq_headed.Goals as goal

pub returns : goal.returns
returns c = c.is_eq.ensures ∙ ap is_eq c.cmp_headed.ensures ∙ sym (texts_ties c.args.bytes.now c.args.other.now)
