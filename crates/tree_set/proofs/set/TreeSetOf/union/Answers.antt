use Rattle.tree_node.proofs.Common.{fits}
use Rattle.std.proofs.Common.{refl}
use Rattle.tree_set.proofs.Merged.{union_ascends, union_elements}
use Rattle.tree_set.proofs.set.TreeSetOf.union.Goals as goal

pub returns : goal.returns
returns g c = rw (c.both_ahead-first.ensures.first.0, c.both_ahead-first.ensures.second.0) (record { merged = refl; elements = λ k. union_elements g.met.K.Ord.total k c.args.self.now c.args.other.now; ascending = union_ascends g.met.K.Ord.total c.args.self.now c.args.other.now c.both_ahead-first.ensures.first.1 c.both_ahead-first.ensures.second.1 })

pub both_ahead-first-requires : goal.both_ahead-first-requires
both_ahead-first-requires g c = search fits
