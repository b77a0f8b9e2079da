use Rattle.usage.proofs.examples.cut_out.Goals as goal

pub returns : goal.returns
returns c = c.remove_range.ensures tt
