use Rattle.tree_node.proofs.Common.{fits}
use Rattle.tree_index.proofs.Indexed.{pairs_ascend}
use Rattle.tree_index.proofs.index.TreeIndexOf.take_refused.Goals as goal

pub refused_place-keep-requires : goal.refused_place-keep-requires
refused_place-keep-requires g c = (search fits, (c.self.invariant.1, c.requires))

pub returns-in_default-clause-ascending : goal.returns-in_default-clause-ascending
returns-in_default-clause-ascending g c = rw (← c.self.view_is) (pairs_ascend g.met.K.Ord.total c.self.inside.tree c.self.invariant.1)

pub returns-in_default-clause-refused : goal.returns-in_default-clause-refused
returns-in_default-clause-refused g c = rw (← c.self.view_is, ← c.bound_behind.ensures) (rw c.in_default.is at c.refused_place-keep.ensures.refused)

pub take_at-requires : goal.take_at-requires
take_at-requires g c =
    let found = rw c.in-Some.is at c.refused_place-keep.ensures.refused in
    (search fits, (c.self.invariant.1, (c.self.invariant.2, (found.0, found.2))))

pub invariant_of-self : goal.invariant_of-self
invariant_of-self g c = (c.self.invariant.0, c.take_at.ensures.takes.whole, c.take_at.ensures.counted)

pub returns-clause-ascending : goal.returns-clause-ascending
returns-clause-ascending g c = rw (← c.self.view_is) (pairs_ascend g.met.K.Ord.total c.self.inside.tree c.self.invariant.1)

pub returns-clause-refused : goal.returns-clause-refused
returns-clause-refused g c =
    let found = rw c.in-Some.is at c.refused_place-keep.ensures.refused in
    rw (← c.self.view_is, ← c.bound_behind.ensures, c.take_at.ensures.pair found.0 found.2) found.1

pub returns-clause-left : goal.returns-clause-left
returns-clause-left g c = rw (← c.self.view_is) c.take_at.ensures.takes.pairs.3
