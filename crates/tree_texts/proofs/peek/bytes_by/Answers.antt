use Rattle.std.proofs.Common.{nat_cmp}
use Rattle.tree_model.proofs.Common.{slice_cmp}
use Rattle.tree_texts.proofs.Lent.{lent_found}
use Rattle.tree_texts.proofs.peek.bytes_by.Goals as goal

pub returns : goal.returns
returns g c = rw c.new-judge.ensures.bytes at (lent_found (slice_cmp nat_cmp) (g.S.Seeks.pairs c.args.index.now) c.new-judge.result.bytes.now c.seek.result c.seek.ensures.found)
