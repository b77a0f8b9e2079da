use Rattle.tree_cells.proofs.Lemmas.{None, refl, rules, steps, has_both, is_pair, pair_set, rows_seen}
use Rattle.tree_cells.proofs.cells.Cells.take.Goals as goal

pub take-requires : goal.take-requires
take-requires g c = (search steps, (has_both (rows_seen c.in-Some.is c.self.view_is c.self.invariant) c.args.cell c.requires).0)

pub take-requires-in-Some : goal.take-requires-in-Some
take-requires-in-Some g c = (search steps, (has_both (rows_seen c.in-Some.is c.self.view_is c.self.invariant) c.args.cell c.requires).1)

pub invariant_of-self : goal.invariant_of-self
invariant_of-self g c = rw (c.take.ensures.spent, c.take-in-Some.ensures.spent) (pair_set (rows_seen c.in-Some.is c.self.view_is c.self.invariant) c.args.cell None None refl).alike

pub returns : goal.returns
returns g c =
    let rows = rows_seen c.in-Some.is c.self.view_is c.self.invariant in
    record {
      pair = is_pair rows c.args.cell _ _ c.take.ensures.value c.take-in-Some.ensures.value;
      spent = rw (c.take.ensures.spent, c.take-in-Some.ensures.spent) (pair_set rows c.args.cell None None refl).view;
      counts = search rules;
    }
