use Rattle.std.proofs.Common.{ℕ, refl, subst, sym, ◌∙◌, IsUtf8}
use mathlib.Core.Bool.{false≢true}
use Rattle.std.proofs.lemmas.Fmt.{parse-decimal, IsAscii-decimal}
use Rattle.std.proofs.lemmas.Str.{IsUtf8-from_ascii}
use Rattle.tree_lines.specs.Words.{IsPlain}
use Rattle.tree_lines.proofs.Decimals.{IsPlain-decimal, number_read}
use Rattle.tree_lines.proofs.numbers.number_of.Goals as goal

-- a number is plain
pub returns-then-not-is_plain : goal.returns-then-not-is_plain
returns-then-not-is_plain c = λ n small e. false≢true (c.if-not-is_plain.ensures.1 (subst IsPlain (sym e) (IsPlain-decimal n small)))

-- a number is text
pub returns-in_default : goal.returns-in_default
returns-in_default c = λ n small e. c.in_default.ensures.cases.0 (subst IsUtf8 (sym e) (IsUtf8-from_ascii _ (IsAscii-decimal n small)))

-- a plain word spells the number that it parses as
pub returns-in-Ok-parse : goal.returns-in-Ok-parse
returns-in-Ok-parse c =
    rw (← c.in-Ok.ensures.cases.0) (number_read ℕ c.in-Ok.text.now c.in-Ok-parse.n (subst IsPlain (sym c.in-Ok.ensures.cases.0) (c.if-not-is_plain.ensures.0 refl)) c.in-Ok-parse.ensures.value.0)

-- a number is parsed
pub returns-in-Err : goal.returns-in-Err
returns-in-Err c = λ n small e.
    let parsed = parse-decimal 64 n c.in-Ok.text.now c.parse.result small small (c.in-Ok.ensures.cases.0 ∙ e) c.parse.ensures.value.0 in
    cc (parsed, c.in-Err.is)
