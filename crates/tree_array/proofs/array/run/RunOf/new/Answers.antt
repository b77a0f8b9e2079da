use Rattle.tree_array.proofs.Lemmas.{first_run}
use Rattle.tree_array.proofs.array.run.RunOf.new.Goals as goal

pub invariant_of-result : goal.invariant_of-result
invariant_of-result g c = rw c.new.ensures (first_run g.K.Ord.cmp g.row.LEN c.requires)
