use Rattle.tree_node.proofs.Sizes.{fits}
use Rattle.tree_readers.proofs.Growing.{front_grows}
use Rattle.tree_readers.proofs.copy.CopyOf.take_in.Goals as goal

-- the front grows by the command
pub invariant_of-self-2 : goal.invariant_of-self-2
invariant_of-self-2 g c =
    rw c.add.ensures (front_grows g.met.K.Ord.total g.K.SameClone.seen g.V.SameClone.seen c.self.inside.past.value c.self.inside.index.pairs c.edit.new.index.pairs c.args.command c.args.shown.value c.self.invariant c.in_ok-edit.ensures.ok c.requires)

pub edit-requires : goal.edit-requires
edit-requires g c = search fits
