use Rattle.std.proofs.Common.{ap, ◌∙◌}
use Rattle.std.proofs.lemmas.List.{map-id}
use Rattle.tree_batches.specs.Batches.{entries_for}
use Rattle.tree_batches.proofs.each.peek_entry_each.Goals as goal

pub returns : goal.returns
returns g c = c.peek_entry_each_lent.ensures ∙ ap (entries_for g.K.Ord.cmp c.args.index.now.pairs) (map-id c.args.keys.now)
