use Rattle.tree_texts.proofs.Ranges.{tells_none, tells_last}
use Rattle.tree_texts.proofs.prefix.has_bytes_between.Goals as goal

pub returns-in-Some-clause-prefix : goal.returns-in-Some-clause-prefix
returns-in-Some-clause-prefix g c =
    λ prefix b. tells_last b c.args.index.now.pairs c.in-Some.ensures.last.0 (c.in-Some.last.now, c.in-Some.field-0-1.now) c.in-Some.ensures.last.1 c.in-Some.ensures.ascending c.head.ensures.all

pub returns-in-None-clause-prefix : goal.returns-in-None-clause-prefix
returns-in-None-clause-prefix g c = λ prefix b. tells_none b c.args.index.now.pairs c.in-None.ensures.last.1.0
