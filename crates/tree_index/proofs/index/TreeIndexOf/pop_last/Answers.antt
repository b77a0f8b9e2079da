use Rattle.std.proofs.Common.{true}
use Rattle.tree_node.proofs.Common.{fits}
use Rattle.tree_remove.specs.Removes.{surely}
use Rattle.tree_root.specs.Trees.{pairs_of}
use Rattle.tree_index.proofs.Indexed.{keeps_spare, pairs_ascend}
use Rattle.tree_index.proofs.Ended.{last_gone}
use Rattle.tree_index.proofs.index.TreeIndexOf.pop_last.Goals as goal

pub last_place-requires : goal.last_place-requires
last_place-requires g c = (search fits, c.self.invariant.1)

pub take_at-requires : goal.take_at-requires
take_at-requires g c = (search fits, (c.self.invariant.1, (c.self.invariant.2, (c.in_ok-place.ensures.0, c.in_ok-place.ensures.2))))

pub invariant_of-self : goal.invariant_of-self
invariant_of-self g c = (c.self.invariant.0, c.take_at.ensures.takes.whole, c.take_at.ensures.counted)

pub returns-clause-spare : goal.returns-clause-spare
returns-clause-spare g c =
    rw (← c.self.view_is) (keeps_spare g.K.Ord.cmp surely c.self.inside.tree _ c.take_at.result.0 true c.take_at.ensures.takes)

pub returns-in_err-place-clause-pairs : goal.returns-in_err-place-clause-pairs
returns-in_err-place-clause-pairs g c = rw (← c.self.view_is, c.from_residual.ensures) (c.in_err-place.ensures, c.in_err-place.ensures)

pub returns-clause-pairs : goal.returns-clause-pairs
returns-clause-pairs g c =
    let entry = c.in_ok-place.ensures in
    let is = c.take_at.ensures.pair entry.0 entry.2 in
    rw (← c.self.view_is, is)
    (last_gone g.met.K.Ord.total (pairs_of c.self.inside.tree) _ (pairs_ascend g.met.K.Ord.total c.self.inside.tree c.self.invariant.1) entry.0 (rw is at c.take_at.ensures.takes.pairs.3) entry.1)
