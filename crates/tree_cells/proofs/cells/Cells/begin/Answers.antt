use Rattle.tree_cells.proofs.Lemmas.{Some, refl, none_seen, pair_set}
use Rattle.tree_cells.proofs.cells.Cells.begin.Goals as goal

pub returns-clause-pairs : goal.returns-clause-pairs
returns-clause-pairs g c =
    rw (c.replace-old.ensures.after, c.with.ensures, c.with-2.ensures, c.requires.bare) (pair_set (none_seen g.row.LEN) 0 (Some c.args.key) (Some c.args.val) refl).view
