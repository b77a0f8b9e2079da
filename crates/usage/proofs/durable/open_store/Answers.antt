use Rattle.std.proofs.Common.{◌∙◌, ℕ, List, Result, Ok, Err, IfOk, inr, subst, sym}
use Rattle.store_codec.specs.Records.{record_at}
use Rattle.store_log.specs.Log.{IsBlank}
use Rattle.tree_cursors.proofs.Common.{fits}
use Rattle.tree_store.specs.Refusal.{RefusesAtOnce}
use Rattle.tree_store.specs.Store.{HasSaved}
use Rattle.usage.proofs.durable.open_store.Goals as goal

-- two facts of a result give a third one
both : {T E : Type 0} (result : Result T E) (P Q R : T → Type 0) → ((t : T) → P t → Q t → R t) → IfOk result P → IfOk result Q → IfOk result R
both (Ok t) P Q R third one other = third t one other
both (Err e) P Q R third one other = tt

-- no log was in the files, and `open` left them as they were
pub make-requires : goal.make-requires
make-requires g c =
    let blank = c.in-Err-Log-Blank-default in
    let refused : RefusesAtOnce blank.field-0-0 = rw (blank.field-0-0-is, blank.field-0-0-0-is) tt in
    let same = blank.ensures.untouched refused in
    let settled = c.requires.settled in (
      search fits,
      (
        blank.ensures.usable refused,
        ((λ left may. settled.0 left (same.0.no_more left may) ∙ sym same.0.same), (λ left may. settled.1 left (same.1.no_more left may) ∙ sym same.1.same)),
      ),
    )

pub returns-in-Err-Log-Blank-default-clause-opened : goal.returns-in-Err-Log-Blank-default-clause-opened
returns-in-Err-Log-Blank-default-clause-opened g c =
    let blank = c.in-Err-Log-Blank-default in
    let refused : RefusesAtOnce blank.field-0-0 = rw (blank.field-0-0-is, blank.field-0-0-0-is) tt in
    let same = blank.ensures.untouched refused in
    both c.make.result _ _ _
    (λ store are_blank empty clean. inr ((subst (λ (l : List ℕ). IsBlank l) same.0.same (are_blank clean).0, subst (λ (l : List ℕ). IsBlank l) same.1.same (are_blank clean).1), empty))
    c.make.ensures.blank c.make.ensures.pairs

pub returns-in-Err-Log-Blank-default-clause-saved : goal.returns-in-Err-Log-Blank-default-clause-saved
returns-in-Err-Log-Blank-default-clause-saved g c =
    both c.make.result _ _ _
    (λ store saved empty clean. subst (λ (l : List (g.row.K.Denot × g.row.V.Denot)). HasSaved g.K.Ord.cmp g.K.Encode.seen g.V.Encode.seen (record_at g.K.Encode.value_at g.V.Encode.value_at) store.saved l) (sym empty) (saved clean))
    c.make.ensures.saved c.make.ensures.pairs
