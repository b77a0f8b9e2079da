use Rattle.tree_array.proofs.Lemmas.{arith, length-replicate, len_small, none_replicated, none_tabled}
use Rattle.tree_array.proofs.array.ArrayOf.new.Goals as goal

pub invariant_of-result : goal.invariant_of-result
invariant_of-result g c = rw c.new.ensures record {
  table = none_tabled g.K.Ord.cmp g.row.LEN 0 _ c.requires (length-replicate g.row.LEN _) (omega arith) (none_replicated g.row.LEN);
  order = record { small = len_small g.row.LEN c.requires; few = omega arith; filled = λ some. absurd (omega arith) };
}
