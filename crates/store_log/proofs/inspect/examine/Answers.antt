use Rattle.std.proofs.Common.{List, ℕ, sym, ◌∙◌, ap, arith}
use Rattle.store_log.specs.Head.{head_at}
use Rattle.store_log.proofs.Examined.{no_frame, not_blank, no_head, damaged, other_kinds, end_found, finds}
use Rattle.store_log.proofs.inspect.examine.Goals as goal

pub returns-in_default-clause-refused : goal.returns-in_default-clause-refused
returns-in_default-clause-refused c head texts h kinds reaches = no_frame c.args.bytes.now (sym c.in_default.ensures) head texts h

pub returns-in_default-clause-blank : goal.returns-in_default-clause-blank
returns-in_default-clause-blank c same = c.without_frame.ensures.blank (cc)

pub returns-in_default-clause-other : goal.returns-in_default-clause-other
returns-in_default-clause-other c same = c.without_frame.ensures.other (cc)

pub returns-in_default-head_in-clause-refused : goal.returns-in_default-head_in-clause-refused
returns-in_default-head_in-clause-refused c head texts h kinds reaches =
    no_head c.args.bytes.now c.in-Some.batch.now c.in-Some.field-0-1.now (sym c.in-Some.ensures) (sym (c.in_default-head_in.ensures ∙ ap (λ (t : List ℕ). head_at t) c.text_in.ensures)) head texts h

pub returns-in_default-head_in-clause-other : goal.returns-in_default-head_in-clause-other
returns-in_default-head_in-clause-other c same = not_blank c.args.bytes.now c.in-Some.batch.now c.in-Some.field-0-1.now (sym c.in-Some.ensures)

pub returns-in-Err-clause-refused : goal.returns-in-Err-clause-refused
returns-in-Err-clause-refused c other texts h kinds reaches =
    damaged c.args.bytes.now c.in-Some.batch.now c.in-Some.field-0-1.now (sym c.in-Some.ensures) c.in-Some-head_in.head (sym (c.in-Some-head_in.ensures ∙ ap (λ (t : List ℕ). head_at t) c.text_in.ensures)) c.in-Err.ensures.damaged.0 other texts h

pub returns-then-end-mark-clause-refused : goal.returns-then-end-mark-clause-refused
returns-then-end-mark-clause-refused c head texts h kinds reaches = omega (arith, c.if-end-mark.true, reaches, end_found c.args.bytes.now c.in-Ok.end c.in-Ok.ensures.frames)

pub returns-clause-found : goal.returns-clause-found
returns-clause-found c =
    finds c.args.bytes.now c.in-Some.batch.now c.in-Some.field-0-1.now (sym c.in-Some.ensures) c.in-Some-head_in.head c.in-Ok.end (sym (c.in-Some-head_in.ensures ∙ ap (λ (t : List ℕ). head_at t) c.text_in.ensures)) c.in-Ok.ensures.sealed c.in-Ok.ensures.frames

pub returns-then-not-has_kinds-clause-refused : goal.returns-then-not-has_kinds-clause-refused
returns-then-not-has_kinds-clause-refused c other texts h kinds reaches =
    other_kinds c.args.bytes.now c.in-Some.batch.now c.in-Some.field-0-1.now (sym c.in-Some.ensures) c.in-Some-head_in.head c.args.kinds (sym (c.in-Some-head_in.ensures ∙ ap (λ (t : List ℕ). head_at t) c.text_in.ensures))
    (λ are. let yes = c.has_kinds.ensures.1 are in cc (yes, c.if-not-has_kinds.true)) other texts h kinds
