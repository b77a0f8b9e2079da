use Rattle.std.proofs.Common.{sym}
use Rattle.std.proofs.lemmas.Simd.{map-map}
use Rattle.tree_model.proofs.Common.{pair_at}
use Rattle.tree_batches.proofs.Answered.{empty_kept}
use Rattle.tree_batches.proofs.each.peek_entry_each_lent.Goals as goal

pub invariant_of-result : goal.invariant_of-result
invariant_of-result g c = (c.tree_of-root.ensures.tree, empty_kept _ _ _ _ c.empty.ensures)

pub returns : goal.returns
returns g c = rw (c.empty.ensures.answered, c.tree_of-root.ensures.pairs) (sym (map-map (pair_at g.K.Ord.cmp c.args.index.now.pairs) g.Q.Lent.key c.args.keys.now))
