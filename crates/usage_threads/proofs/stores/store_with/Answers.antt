use Rattle.std.proofs.Common.{◌≡◌, length, subst, ap, arith, nat_cmp, ◌*◌}
use Rattle.tree_state.specs.Tallies.{sum_of}
use Rattle.tree_state.specs.declared.tally.Tally.{Tally}
use Rattle.usage_threads.specs.Inserts.{IsOfInserts}
use Rattle.usage_threads.proofs.Growth.{stored_all}
use Rattle.usage_threads.proofs.Inserted.{all_inserted}
use Rattle.usage_threads.proofs.stores.store_with.Goals as goal

-- the calls of the eight passes are those of the history
pub returns-clause-tally : goal.returns-clause-tally
returns-clause-tally g c =
    let passes = c.in_ok-passes.passes in
    let eight : length passes.items ≡ 8 = omega (arith, passes.ok.0, c.in_ok-passes.ensures.count, c.in_ok-workers.ensures) in (
      c.in-Ok.ensures.tally,
      rw c.in-Ok.ensures.passes (subst (λ count. IsOfInserts (count * 100) (sum_of passes.items)) eight (all_inserted 100 passes.items c.in_ok-passes.ensures.each)),
    )

-- each number was stored once at least
pub returns-clause-few : goal.returns-clause-few
returns-clause-few g c =
    let enough = stored_all nat_cmp (λ n. n) (λ n. n) c.in-Ok.closed.history.items c.in-Ok.closed.index.pairs c.in-Ok.ensures.replays in
    omega (arith, enough, ap (λ (t : Tally). t.stored) c.in-Ok.ensures.tally)
