use Rattle.std.proofs.Common.{◌++◌, ◌∙◌, sym, ap, arith, string_bytes}
use Rattle.std.proofs.lemmas.Str.{IsUtf8-string_bytes}
use Rattle.std.proofs.Math.Utf8.{encode}
use Rattle.tree_texts.specs.TextPrefix.{text_end}
use Rattle.tree_texts.proofs.TextPrefixes.{text_end_none, text_end_top, text_end_raised}
use Rattle.tree_texts.proofs.text_prefix.end_of_text.Goals as goal

pub returns-in-Some-char_after : goal.returns-in-Some-char_after
returns-in-Some-char_after c =
    let raised = text_end_raised (string_bytes c.pop.new.self) c.in-Some.last (IsUtf8-string_bytes c.pop.new.self) c.char_after.ensures.scalar c.in-Some-char_after.ensures.next.0 in
    rw (c.from.ensures, c.in_ok-push.ensures.bytes, c.in-Some-char_after.ensures.next.1)
    (sym raised ∙ ap text_end (sym c.in-Some.ensures.bytes) ∙ c.loop-last.invariant)

pub loop-last-preserved : goal.loop-last-preserved
loop-last-preserved c =
    sym (text_end_top (string_bytes c.pop.new.self) (IsUtf8-string_bytes c.pop.new.self))
    ∙ ap text_end (ap (λ last. string_bytes c.pop.new.self ++ encode last) (sym c.in_default-char_after.ensures.next) ∙ sym c.in-Some.ensures.bytes)
    ∙ c.loop-last.invariant

pub returns : goal.returns
returns c =
    sym (text_end_none (string_bytes c.loop-last.text) (omega (arith, c.in_default.ensures.none, c.loop-last.text.bytes.ok))) ∙ c.loop-last.invariant
