use Rattle.tree_node.proofs.Common.{fits}
use Rattle.std.proofs.Common.{refl}
use Rattle.tree_set.proofs.Merged.{alone_ascends, alone_elements}
use Rattle.tree_set.proofs.set.TreeSetOf.difference.Goals as goal

pub returns : goal.returns
returns g c = rw (c.both_ahead-first.ensures.first.0, c.both_ahead-first.ensures.second.0) (record { alone = refl; elements = λ k. alone_elements g.met.K.Ord.total c.args.self.now c.args.other.now k; ascending = alone_ascends g.met.K.Ord.total c.args.self.now c.args.other.now c.both_ahead-first.ensures.first.1 })

pub both_ahead-first-requires : goal.both_ahead-first-requires
both_ahead-first-requires g c = search fits
