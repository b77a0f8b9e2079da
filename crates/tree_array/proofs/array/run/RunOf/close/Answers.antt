use Rattle.tree_array.proofs.Lemmas.{first_run}
use Rattle.tree_array.proofs.array.run.RunOf.close.Goals as goal

pub invariant_of-self : goal.invariant_of-self
invariant_of-self g c = rw (c.replace.ensures.after, c.new.ensures) (first_run g.K.Ord.cmp g.row.LEN c.self.invariant.table.is_len)
