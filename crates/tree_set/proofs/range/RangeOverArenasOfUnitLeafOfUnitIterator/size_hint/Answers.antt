use Rattle.tree_set.proofs.range.RangeOverArenasOfUnitLeafOfUnitIterator.size_hint.Goals as goal

pub returns-clause-lower : goal.returns-clause-lower
returns-clause-lower g c = c.size_hint.ensures.lower

pub returns-clause-upper : goal.returns-clause-upper
returns-clause-upper g c = c.size_hint.ensures.upper
