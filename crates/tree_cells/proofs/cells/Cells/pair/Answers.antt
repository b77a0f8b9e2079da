use Rattle.tree_cells.proofs.Lemmas.{steps, has_both, is_pair, rows_seen}
use Rattle.tree_cells.proofs.cells.Cells.pair.Goals as goal

pub get-requires : goal.get-requires
get-requires g c = (search steps, (has_both (rows_seen c.in-Some.is c.self.view_is c.self.invariant) c.args.cell c.requires).0)

pub returns : goal.returns
returns g c = is_pair (rows_seen c.in-Some.is c.self.view_is c.self.invariant) c.args.cell _ _ c.get.ensures c.get-in-Some.ensures
