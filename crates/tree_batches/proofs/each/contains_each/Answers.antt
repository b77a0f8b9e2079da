use Rattle.std.proofs.Common.{ap, is_some, map, ◌∙◌}
use Rattle.std.proofs.lemmas.List.{map-id}
use Rattle.tree_batches.specs.Batches.{entries_for}
use Rattle.tree_batches.proofs.each.contains_each.Goals as goal

pub returns : goal.returns
returns g c = c.contains_each_lent.ensures ∙ ap (λ keys. map is_some (entries_for g.K.Ord.cmp c.args.index.now.pairs keys)) (map-id c.args.keys.now)
