use Rattle.tree_node.proofs.Holders.{leads_there}
use Rattle.tree_node.proofs.descent.holds.Goals as goal

pub returns-in-Some-clause-spans : goal.returns-in-Some-clause-spans
returns-in-Some-clause-spans g c = rw (← c.in-Some.ensures, ← c.array.ensures) c.spans.ensures

pub returns-in-Some-clause-way : goal.returns-in-Some-clause-way
returns-in-Some-clause-way g c held =
    leads_there g.met.K.Ord.total c.args.arenas.now c.args.key.now c.args.leaf (rw (← c.in-Some.ensures, ← c.array.ensures) (c.spans.ensures.0 held))
