use Rattle.tree_index.proofs.Indexed.{empty_by_count}
use Rattle.tree_index.proofs.index.TreeIndexOf.is_empty.Goals as goal

pub returns : goal.returns
returns g c = rw (← c.self.view_is) (empty_by_count _ _ c.self.invariant.2)
