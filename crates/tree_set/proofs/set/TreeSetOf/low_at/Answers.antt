use Rattle.std.proofs.Common.{sym}
use Rattle.tree_model.specs.Pairs.{lent_bound}
use Rattle.tree_node.proofs.Common.{fits}
use Rattle.tree_views.proofs.Walked.{all_pass}
use Rattle.tree_set.proofs.Bounded.{lower_at, lower_beyond, lower_past}
use Rattle.tree_set.proofs.set.TreeSetOf.low_at.Goals as goal

pub elements_ascend-requires : goal.elements_ascend-requires
elements_ascend-requires g c = search fits

pub at_or_above-requires : goal.at_or_above-requires
at_or_above-requires g c = search fits

pub at_or_below-requires : goal.at_or_below-requires
at_or_below-requires g c = search fits

pub at_or_below-requires-in-Excluded : goal.at_or_below-requires-in-Excluded
at_or_below-requires-in-Excluded g c = search fits

pub returns-in-Some : goal.returns-in-Some
returns-in-Some g c = rw c.in-Included.is (lower_at g.met.K.Ord.total c.args.self.now c.in-Included.element.now c.elements_ascend.ensures c.in-Some.first.now (sym c.in-Some.ensures))

pub returns-in-None : goal.returns-in-None
returns-in-None g c =
    let bound = lent_bound c.beyond.result in
    let beyond = lower_beyond g.met.K.Ord.total c.args.self.now c.in-Included.element.now c.elements_ascend.ensures c.at_or_below.result bound c.at_or_below.ensures c.beyond.ensures in
    rw c.in-Included.is (lower_past g.met.K.Ord.total c.args.self.now c.in-Included.element.now c.elements_ascend.ensures bound (sym c.in-None.ensures) beyond)

pub returns-in-Excluded : goal.returns-in-Excluded
returns-in-Excluded g c =
    rw c.in-Excluded.is (lower_beyond g.met.K.Ord.total c.args.self.now c.in-Excluded.element.now c.elements_ascend.ensures c.at_or_below-in-Excluded.result (lent_bound c.beyond-in-Excluded.result) c.at_or_below-in-Excluded.ensures c.beyond-in-Excluded.ensures)

pub returns-in-Unbounded : goal.returns-in-Unbounded
returns-in-Unbounded g c = rw c.in-Unbounded.is (all_pass c.args.self.now)
