use Rattle.std.proofs.Common.{◌*◌, ◌∙◌, sym, subst, vec_len}
use Rattle.tree_shared.specs.Workers.{OnlyInserts}
use Rattle.tree_shared.proofs.Inserted.{all_inserted}
use Rattle.tree_shared.proofs.storm.run_over.Goals as goal

-- the tally is that of all passes together
pub returns-in_default-false-clause-inserts : goal.returns-in_default-false-clause-inserts
returns-in_default-false-clause-inserts g c =
    let ran = c.in_ok-run_all.ensures in
    let passes = c.in_ok-run_all.field-0.0 in
    subst (OnlyInserts (vec_len c.args.passes * c.args.n)) (sym c.closed_with.ensures.passes) (all_inserted c.args.n passes.items ran.inserts (vec_len c.args.passes) (sym ran.count ∙ passes.ok.0))
