use Rattle.tree_array.proofs.Lemmas.{◌≡◌, refl, ◌∙◌, sym, arith, rules, first_there, length_run}
use Rattle.tree_array.proofs.array.run.RunOf.first_key.Goals as goal

pub key-requires : goal.key-requires
key-requires g c =
    let first = first_there c.self.invariant (omega (arith, c.if-counts-eq0.false, c.counts.ensures.entries)) in
    (search rules, rw first.3 refl)

pub returns-else-counts-eq0 : goal.returns-else-counts-eq0
returns-else-counts-eq0 g c =
    let run = rw c.self.view_is at (length_run c.self.invariant) in
    let first = first_there c.self.invariant (omega (arith, c.if-counts-eq0.false, c.counts.ensures.entries)) in
    let read = sym first.3 ∙ c.key.ensures.1 in
    let same : first.0 ≡ (c.key.result.now, c.key.ensures.0) = cc in
    record { first = (c.key.ensures.0, first.1, sym c.self.view_is ∙ rw (← same) first.2); few = omega (arith, run) }
