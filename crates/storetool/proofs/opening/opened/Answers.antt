use Rattle.std.proofs.Common.{inl, inr, ◌∙◌, sym}
use Rattle.tree_cursors.proofs.Common.{fits}
use Rattle.tree_store.specs.Refusal.{RefusesAtOnce}
use Rattle.storetool.proofs.opening.opened.Goals as goal

pub returns-in-Ok-clause-durable : goal.returns-in-Ok-clause-durable
returns-in-Ok-clause-durable g c = record { runs = c.in-Ok.ensures.runs; is_saved = c.in-Ok.ensures.saved; leaves = c.in-Ok.ensures.leaves }

pub returns-in-Ok-clause-opened : goal.returns-in-Ok-clause-opened
returns-in-Ok-clause-opened g c = λ clean. inl (c.in-Ok.ensures.opened clean)

pub returns-in-Ok-make-clause-durable : goal.returns-in-Ok-make-clause-durable
returns-in-Ok-make-clause-durable g c =
    let made = c.in-Ok-make.ensures in
    record { runs = made.runs; is_saved = λ clean. rw made.pairs (made.saved clean); leaves = λ clean left holds. rw made.pairs (made.leaves clean left holds) }

-- no log was in the files, and `open` left them as they were
pub make-requires : goal.make-requires
make-requires g c =
    let blank = c.in-Err-Log-Blank-default in
    let refused : RefusesAtOnce blank.field-0-0 = rw (blank.field-0-0-is, blank.field-0-0-0-is) tt in
    let same = blank.ensures.untouched refused in
    let settled = c.requires.settled in (
      search fits,
      (
        blank.ensures.usable refused,
        ((λ left may. settled.0 left (same.0.no_more left may) ∙ sym same.0.same), (λ left may. settled.1 left (same.1.no_more left may) ∙ sym same.1.same)),
      ),
    )

pub returns-in-Ok-make-clause-opened : goal.returns-in-Ok-make-clause-opened
returns-in-Ok-make-clause-opened g c = λ clean.
    let blank = c.in-Err-Log-Blank-default in
    let refused : RefusesAtOnce blank.field-0-0 = rw (blank.field-0-0-is, blank.field-0-0-0-is) tt in
    let same = blank.ensures.untouched refused in
    inr (rw (same.0.same, same.1.same) at (c.in-Ok-make.ensures.blank clean), c.in-Ok-make.ensures.pairs)
