use Rattle.std.proofs.Common.{refl}
use Rattle.tree_lines.proofs.Spellings.{reads_by_name}
use Rattle.tree_lines.proofs.requests.request_of.Goals as goal

-- a line is read by its first word and what follows it
pub returns : goal.returns
returns c = reads_by_name _ _ _ c.first_word.ensures.word c.first_word.ensures.behind c.first_word.ensures.whole _ refl _ c.request_named.ensures
