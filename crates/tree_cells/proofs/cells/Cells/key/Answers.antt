use Rattle.tree_cells.proofs.Lemmas.{steps, has_both, is_pair, rows_seen, val_there}
use Rattle.tree_cells.proofs.cells.Cells.key.Goals as goal

pub get-requires : goal.get-requires
get-requires g c = (search steps, (has_both (rows_seen c.in-Some.is c.self.view_is c.self.invariant) c.args.cell c.requires).0)

pub returns : goal.returns
returns g c =
    let rows = rows_seen c.in-Some.is c.self.view_is c.self.invariant in
    let val = val_there rows c.args.cell c.requires in
    (val.0, is_pair rows c.args.cell _ val.0 c.get.ensures val.1)
