use Rattle.std.proofs.Common.{◌∙◌, sym}
use Rattle.tree_texts.proofs.Heads.{heads_apart}
use Rattle.tree_texts.proofs.head.cmp_headed.Goals as goal

pub returns : goal.returns
returns c = c.cmp.ensures ∙ sym (heads_apart c.requires.head c.requires.other c.if-head-other_head.false)
