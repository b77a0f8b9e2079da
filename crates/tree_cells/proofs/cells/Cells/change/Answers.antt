use Rattle.std.proofs.Common.{None, arith}
use Rattle.tree_cells.proofs.Lemmas.{get_or-set_same, set-set, within, val_there, steps, has_both, is_pair, key_there, rows_seen, val_set}
use Rattle.tree_cells.proofs.cells.Cells.change.Goals as goal

pub take-requires : goal.take-requires
take-requires g c = (search steps, (has_both (rows_seen c.in-Some.is c.self.view_is c.self.invariant) c.args.cell c.requires.pair).1)

pub change-val-requires : goal.change-val-requires
change-val-requires g c =
    let rows = rows_seen c.in-Some.is c.self.view_is c.self.invariant in
    let key = key_there rows c.args.cell c.requires.pair in
    c.requires.callable (key.0, c.take.result) (is_pair rows c.args.cell key.0 _ key.1 c.take.ensures.value)

pub put-requires : goal.put-requires
put-requires g c =
    let rows = rows_seen c.in-Some.is c.self.view_is c.self.invariant in
    let val = val_there rows c.args.cell c.requires.pair in
    let early = within _ c.args.cell val.0 val.1 in
    (search steps, (omega (arith, early, c.in-Some.rows.vals.whole), rw c.take.ensures.spent (get_or-set_same c.in-Some.rows.vals.slots c.args.cell None None early)))

pub invariant_of-self : goal.invariant_of-self
invariant_of-self g c =
    let rows = rows_seen c.in-Some.is c.self.view_is c.self.invariant in
    let key = key_there rows c.args.cell c.requires.pair in
    rw (c.put.ensures, c.take.ensures.spent, set-set) (val_set rows c.args.cell key.0 c.change-val.result key.1).alike

pub returns-clause-pairs : goal.returns-clause-pairs
returns-clause-pairs g c =
    let rows = rows_seen c.in-Some.is c.self.view_is c.self.invariant in
    let key = key_there rows c.args.cell c.requires.pair in (
      key.0,
      c.take.result,
      c.change-val.result,
      is_pair rows c.args.cell key.0 _ key.1 c.take.ensures.value,
      c.change-val.ensures,
      rw (c.put.ensures, c.take.ensures.spent, set-set) (val_set rows c.args.cell key.0 c.change-val.result key.1).view,
    )
