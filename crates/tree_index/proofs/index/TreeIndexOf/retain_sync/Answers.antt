use Rattle.std.proofs.Common.{refl}
use Rattle.tree_node.proofs.Common.{fits}
use Rattle.tree_index.specs.Retained.{low_behind}
use Rattle.tree_index.proofs.Refused.{asks_no_more, asks_on, one_fewer}
use Rattle.tree_index.proofs.index.TreeIndexOf.retain_sync.Goals as goal

pub loop-pair-init : goal.loop-pair-init
loop-pair-init g c = record { callable = c.requires; asked = (refl, refl) }

pub take_refused-next-requires : goal.take_refused-next-requires
take_refused-next-requires g c = (search fits, c.loop-pair.invariant.callable)

pub loop-pair-smaller : goal.loop-pair-smaller
loop-pair-smaller g c =
    one_fewer g.F.FnMut g.met.K.Ord.total c.args.keep c.args.self.now.pairs c.loop-pair.keep _ (low_behind c.loop-pair.gone) c.loop-pair.self.pairs _ c.in-Some.pair c.take_refused-next.ensures.ascending (rw c.in-Some.is at c.take_refused-next.ensures.refused) (rw c.in-Some.is at c.take_refused-next.ensures.left)

pub loop-pair-preserved : goal.loop-pair-preserved
loop-pair-preserved g c = record {
  callable = c.take_refused-next.ensures.callable;
  asked = asks_on g.F.FnMut g.met.K.Ord.total c.args.keep c.args.self.now.pairs c.loop-pair.keep _ c.loop-pair.self.pairs c.loop-pair.gone c.loop-pair.invariant.asked c.in-Some.pair _ c.take_refused-next.ensures.ascending (rw c.in-Some.is at c.take_refused-next.ensures.refused) (rw c.in-Some.is at c.take_refused-next.ensures.left);
}

pub returns-in_default : goal.returns-in_default
returns-in_default g c = rw (rw c.in_default.is at c.take_refused-next.ensures.left) (asks_no_more g.F.FnMut g.met.K.Ord.total c.args.keep c.args.self.now.pairs c.loop-pair.keep _ c.loop-pair.self.pairs c.loop-pair.gone c.loop-pair.invariant.asked (rw c.in_default.is at c.take_refused-next.ensures.refused))
