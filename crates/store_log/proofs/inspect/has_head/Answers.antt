use Rattle.std.proofs.Common.{◌≡◌, ◌∷◌, List, ℕ, Some, sym, ◌∙◌, ap, subst}
use Rattle.store_frames.specs.Frame.{first_frame}
use Rattle.store_frames.proofs.Batches.{before}
use Rattle.store_log.specs.Log.{IsHeadBatch}
use Rattle.store_log.proofs.Examined.{head_absent, head_found}
use Rattle.store_log.proofs.inspect.has_head.Goals as goal

pub returns-in_default : goal.returns-in_default
returns-in_default c = (
  λ e. let z : ⊥ = cc e in absurd z,
  λ has. let found : first_frame (215 ∷ c.args.behind.now) ≡ Some (has.batch, has.rest) = has.found in let z : ⊥ = cc (found, c.in_default.ensures) in absurd z,
)

pub returns : goal.returns
returns c = (
  λ e.
      let found = head_found c.sealed_head.result c.in-Some.batch.now c.sealed_head.ensures.found (sym c.is_some.ensures ∙ e) in
      record { head = found.0; batch = c.in-Some.batch.now; rest = c.in-Some.field-0-1.now; found = sym c.in-Some.ensures; is = found.1 },
  λ has.
      let same : Some (has.batch, has.rest) ≡ Some (c.in-Some.batch.now, c.in-Some.field-0-1.now) = sym has.found ∙ sym c.in-Some.ensures in
      let is : has.batch ≡ c.in-Some.batch.now = ap before same in
      c.is_some.ensures ∙ head_absent c.sealed_head.result c.in-Some.batch.now c.sealed_head.ensures.none has.head (subst (λ (b : List ℕ). IsHeadBatch b has.head) is has.is),
)
