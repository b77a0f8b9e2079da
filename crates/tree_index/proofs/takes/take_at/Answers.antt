use Rattle.std.proofs.Common.{arith}
use Rattle.tree_node.proofs.Common.{fits}
use Rattle.tree_remove.specs.Removes.{surely}
use Rattle.tree_index.proofs.Indexed.{one_less}
use Rattle.tree_index.proofs.takes.take_at.Goals as goal

pub take_entry-pair-requires : goal.take_entry-pair-requires
take_entry-pair-requires g c = (search fits, (c.requires.whole, c.requires.stored))

pub overflow_sub-len : goal.overflow_sub-len
overflow_sub-len g c = omega (arith, one_less g.met.K.Ord.total surely _ _ c.take_entry-pair.result.0 c.requires.whole c.take_entry-pair.ensures.takes, c.requires.counted)

pub returns-clause-counted : goal.returns-clause-counted
returns-clause-counted g c = omega (arith, one_less g.met.K.Ord.total surely _ _ c.take_entry-pair.result.0 c.requires.whole c.take_entry-pair.ensures.takes, c.requires.counted)
