use Rattle.tree_cells.proofs.Lemmas.{Some, refl, steps, counts_seen, has_none, pair_set, rows_seen}
use Rattle.tree_cells.proofs.cells.Cells.push.Goals as goal

pub put-requires : goal.put-requires
put-requires g c =
    (search steps, (rw (counts_seen c.in-Some.is c.self.view_is) c.requires.within, (has_none (rows_seen c.in-Some.is c.self.view_is c.self.invariant) _ (rw (counts_seen c.in-Some.is c.self.view_is) c.requires.empty)).0))

pub put-requires-in-Some : goal.put-requires-in-Some
put-requires-in-Some g c =
    (search steps, (rw (counts_seen c.in-Some.is c.self.view_is) c.requires.within, (has_none (rows_seen c.in-Some.is c.self.view_is c.self.invariant) _ (rw (counts_seen c.in-Some.is c.self.view_is) c.requires.empty)).1))

pub invariant_of-self : goal.invariant_of-self
invariant_of-self g c =
    let rows = rows_seen c.in-Some.is c.self.view_is c.self.invariant in
    rw (c.put.ensures, c.put-in-Some.ensures) (pair_set rows _ (Some c.args.key) (Some c.args.val) refl).alike

pub returns-in-Some-clause-pairs : goal.returns-in-Some-clause-pairs
returns-in-Some-clause-pairs g c =
    let rows = rows_seen c.in-Some.is c.self.view_is c.self.invariant in
    rw (c.put.ensures, c.put-in-Some.ensures, ← counts_seen c.in-Some.is c.self.view_is) (pair_set rows _ (Some c.args.key) (Some c.args.val) refl).view
