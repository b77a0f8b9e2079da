use Rattle.std.proofs.Common.{◌≡◌, List, ℕ, Some, sym, ◌∙◌, ap, subst}
use Rattle.store_frames.proofs.Batches.{before}
use Rattle.store_log.specs.Log.{IsHeadBatch}
use Rattle.store_log.proofs.Returned.{if_none_then, if_some_then}
use Rattle.store_log.proofs.spare.head_of.Goals as goal

pub returns-clause-found : goal.returns-clause-found
returns-clause-found c =
    if_some_then c.sealed_head.result c.sealed_head.ensures.found (λ head is. record { batch = c.in-Some.batch.now; rest = c.in-Some.field-0-1.now; found = sym c.in-Some.ensures; is = is })

pub returns-clause-none : goal.returns-clause-none
returns-clause-none c =
    if_none_then c.sealed_head.result c.sealed_head.ensures.none (λ none head h.
    let same : Some (h.batch, h.rest) ≡ Some (c.in-Some.batch.now, c.in-Some.field-0-1.now) = sym h.found ∙ sym c.in-Some.ensures in
    none head (subst (λ (b : List ℕ). IsHeadBatch b head) (ap before same) h.is))
