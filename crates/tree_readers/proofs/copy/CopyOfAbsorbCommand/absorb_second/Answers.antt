use Rattle.tree_readers.proofs.Growing.{same_command_itself}
use Rattle.tree_node.proofs.Sizes.{fits}
use Rattle.tree_readers.proofs.copy.CopyOfAbsorbCommand.absorb_second.Goals as goal

pub take_in-requires : goal.take_in-requires
take_in-requires g c = (search fits, rw c.of-shown.ensures (same_command_itself g.met.K.Ord.total g.K.SameClone.seen g.V.SameClone.seen c.args.operation))

pub returns-clause-absorbed : goal.returns-clause-absorbed
returns-clause-absorbed g c = rw c.of-shown.ensures at c.take_in.ensures
