use Rattle.std.proofs.Common.{◌≡◌, sym, ap, ◌∙◌, arith, nat_cmp}
use Rattle.std.proofs.lemmas.Grind.{common_steps}
use Rattle.tree_state.specs.Tallies.{plus}
use Rattle.tree_state.specs.declared.tally.Tally.{Tally}
use Rattle.usage_threads.proofs.Growth.{stored_all}
use Rattle.usage_threads.proofs.claims.claim_both.Goals as goal

-- each number was stored once at least, and one of the two threads was told
pub returns-clause-owned : goal.returns-clause-owned
returns-clause-owned g c =
    let told : c.in-Ok.closed.tally ≡ plus c.tally.result c.tally-2.result = grind (arith, common_steps) in
    let enough = stored_all nat_cmp (λ n. n) (λ n. n) c.in-Ok.closed.history.items c.in-Ok.closed.index.pairs c.in-Ok.ensures.replays in
    omega (arith, enough, ap (λ (t : Tally). t.stored) (sym c.in-Ok.ensures.tally ∙ told))
