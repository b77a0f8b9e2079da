use Rattle.std.proofs.Common.{rules}
use Rattle.tree_leaf.proofs.Rooms.{rewritten}
use Rattle.tree_leaf.proofs.Splices.{changed}
use Rattle.tree_leaf.proofs.leaf.links.set_next.Goals as goal

pub leaf_mut-requires : goal.leaf_mut-requires
leaf_mut-requires g c = (search rules, (search rules, c.requires _ c.in-Some.is))

pub returns-in-Some-clause-room : goal.returns-in-Some-clause-room
returns-in-Some-clause-room g c = rewritten _ _ _ (c.requires _ c.in-Some.is)

pub returns-in-Some-clause-changes : goal.returns-in-Some-clause-changes
returns-in-Some-clause-changes g c = changed _ _ _ _ (λ leaf. record leaf { next = c.args.next }) c.in-Some.is c.leaf_mut.ensures.value
