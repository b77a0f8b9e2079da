use Rattle.std.proofs.Common.{sym, ap, ◌∙◌, option_map}
use Rattle.storetool.proofs.Answered.{reads_kept, reads_long}
use Rattle.storetool.proofs.session.request_in.Goals as goal

pub returns-in-Some : goal.returns-in-Some
returns-in-Some c = λ begun kept. reads_kept begun c.in-Some.text.now c.request_of.result (sym (ap (option_map (λ text. text.now)) c.in-Some.is) ∙ c.text.ensures ∙ kept) c.request_of.ensures

pub returns-in-None : goal.returns-in-None
returns-in-None c = λ begun kept. reads_long begun (sym (ap (option_map (λ text. text.now)) c.in-None.is) ∙ c.text.ensures ∙ kept)
