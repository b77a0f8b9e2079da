use Rattle.std.proofs.Common.{refl}
use Rattle.tree_node.proofs.Sizes.{fits}
use Rattle.tree_texts.proofs.LastWithin.{last_moved}
use Rattle.tree_texts.proofs.within.last_within.Goals as goal

pub range-requires : goal.range-requires
range-requires g c = search fits

pub next_back-requires : goal.next_back-requires
next_back-requires g c = search fits

pub returns-clause-ascending : goal.returns-clause-ascending
returns-clause-ascending g c = rw c.range.ensures at c.next_back.ensures.steps.ascending

pub returns-clause-last : goal.returns-clause-last
returns-clause-last g c =
    last_moved g.met.K.Ord.total _ c.next_back.new.self c.next_back.result (record { forward = refl; backward = refl }) (rw c.range.ensures at c.next_back.ensures.steps)
