use Rattle.tree_cells.proofs.Lemmas.{steps, has_both, is_pair, key_there, rows_seen, val_set}
use Rattle.tree_cells.proofs.cells.Cells.replace.Goals as goal

pub replace-requires : goal.replace-requires
replace-requires g c = (search steps, (has_both (rows_seen c.in-Some.is c.self.view_is c.self.invariant) c.args.cell c.requires).1)

pub invariant_of-self : goal.invariant_of-self
invariant_of-self g c =
    let rows = rows_seen c.in-Some.is c.self.view_is c.self.invariant in
    let key = key_there rows c.args.cell c.requires in
    rw c.replace.ensures.after (val_set rows c.args.cell key.0 c.args.val key.1).alike

pub returns-clause-pairs : goal.returns-clause-pairs
returns-clause-pairs g c =
    let rows = rows_seen c.in-Some.is c.self.view_is c.self.invariant in
    let key = key_there rows c.args.cell c.requires in
    (key.0, is_pair rows c.args.cell key.0 _ key.1 c.replace.ensures.before, rw c.replace.ensures.after (val_set rows c.args.cell key.0 c.args.val key.1).view)
