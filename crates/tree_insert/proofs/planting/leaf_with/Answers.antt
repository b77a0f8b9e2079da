use Rattle.tree_insert.proofs.Common.{◌∙◌}
use Rattle.tree_insert.proofs.Plantings.{first_stored}
use Rattle.tree_insert.proofs.planting.leaf_with.Goals as goal

pub returns-clause-array : goal.returns-clause-array
returns-clause-array g c = first_stored g.K.Ord.cmp g.row.LEN c.args.key c.args.val _ _ _ c.requires (c.array_mut.ensures.value ∙ c.new-leaf.ensures.array) c.insert.ensures
