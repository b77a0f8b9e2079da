use Rattle.std.proofs.Common.{◌≡◌, ◌≤◌, length, true, sym, ◌∙◌, arith}
use Rattle.std.proofs.lemmas.Bool.Decides.{Decides-eqb}
use Rattle.std.proofs.lemmas.Slice.Eq.{slice_eq-Decides}
use Rattle.store_frames.proofs.Seals.{too_short, seal_of-sealed, sealed_by}
use Rattle.store_frames.proofs.seal.unsealed.Goals as goal

pub returns-in_default-clause-other : goal.returns-in_default-clause-other
returns-in_default-clause-other c = too_short c.args.key c.args.batch.now c.in_default.ensures.cases

pub returns-then-eq-clause-fits : goal.returns-then-eq-clause-fits
returns-then-eq-clause-fits c =
    let cases = c.in-Some.ensures.cases in
    let long : 8 ≤ length c.args.batch.now = omega (arith, cases.2) in
    let same = (slice_eq-Decides Decides-eqb c.in-Some.seal.now c.seal_of.result c.eq.result c.eq.ensures).0 c.if-eq.true in
    sealed_by c.args.key c.args.batch.now c.in-Some.text.now c.in-Some.seal.now cases.0 cases.1 long (same ∙ c.seal_of.ensures)

pub returns-else-eq-clause-other : goal.returns-else-eq-clause-other
returns-else-eq-clause-other c is =
    let cases = c.in-Some.ensures.cases in
    let long : 8 ≤ length c.args.batch.now = omega (arith, cases.2) in
    let seal_is = seal_of-sealed c.args.key c.args.batch.now c.in-Some.text.now c.in-Some.seal.now cases.0 cases.1 long is in
    let same : c.eq.result ≡ true = (slice_eq-Decides Decides-eqb c.in-Some.seal.now c.seal_of.result c.eq.result c.eq.ensures).1 (seal_is ∙ sym c.seal_of.ensures) in
    cc (same, c.if-eq.false)
