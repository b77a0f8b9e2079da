use Rattle.tree_array.proofs.Lemmas.{◌≡◌, length, ◌∙◌, sym, ap, arith, nat_tests, length_run}
use Rattle.tree_array.proofs.array.run.RunOf.is_full.Goals as goal

pub returns : goal.returns
returns g c =
    let is : length c.args.self.now ≡ c.counts.result.arrivals = ap length (sym c.self.view_is) ∙ (length_run c.self.invariant).0 ∙ sym (c.counts.ensures.arrivals ∙ c.self.invariant.all) in
    (λ full. grind (arith, nat_tests), λ all. grind (arith, nat_tests))
