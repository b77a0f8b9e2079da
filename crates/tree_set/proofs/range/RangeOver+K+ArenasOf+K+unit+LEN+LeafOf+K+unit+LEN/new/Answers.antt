use Rattle.tree_set.proofs.range.RangeOver+K+ArenasOf+K+unit+LEN+LeafOf+K+unit+LEN.new.Goals as goal

pub invariant_of-result : goal.invariant_of-result
invariant_of-result g c = record {
  forward = rw c.requires.forward tt;
  backward = rw c.requires.backward tt;
}
