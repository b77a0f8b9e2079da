use Rattle.std.proofs.Common.{ap, ◌∙◌}
use Rattle.std.proofs.lemmas.List.{map-id}
use Rattle.tree_batches.specs.Batches.{values_for}
use Rattle.tree_batches.proofs.each.peek_each.Goals as goal

pub returns : goal.returns
returns g c = c.peek_each_lent.ensures ∙ ap (values_for g.K.Ord.cmp c.args.index.now.pairs) (map-id c.args.keys.now)
