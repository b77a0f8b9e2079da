use Rattle.std.proofs.Common.{◌≡◌, string_bytes, length}
use Rattle.tree_texts.specs.TextPrefix.{text_end}
use Rattle.tree_texts.proofs.text_prefix.end_of_text.Given as goal

abbrev pub invariant-loop-last : goal.invariant-loop-last
invariant-loop-last l = text_end (string_bytes l.text) ≡ text_end (string_bytes l.fn.prefix)

abbrev pub decreases-loop-last : goal.decreases-loop-last
decreases-loop-last l = length (string_bytes l.text)
