use Rattle.std.proofs.Common.{refl}
use Rattle.tree_model.proofs.Common.{false≢true}
use Rattle.tree_lines.specs.Progress.{answer_text}
use Rattle.tree_lines.proofs.Endings.{ends_empty, ends_line}
use Rattle.tree_node.proofs.Common.{fits}
use Rattle.tree_lines.proofs.lines.end_lines.Goals as goal

pub is_empty-requires : goal.is_empty-requires
is_empty-requires g c = search fits

-- no line is begun
pub returns-then-is_empty : goal.returns-then-is_empty
returns-then-is_empty g c = ends_empty g.row.LEN c.args.line.now c.args.index.now.pairs (g.W.Write.contents c.args.output.now) (c.if-is_empty.ensures.0 refl)

pub answer_to-answer-requires : goal.answer_to-answer-requires
answer_to-answer-requires g c = search fits

pub write_answer-requires : goal.write_answer-requires
write_answer-requires g c = search fits

-- the begun line was answered
pub returns : goal.returns
returns g c =
    ends_line g.row.LEN c.args.line.now c.args.index.now.pairs c.answer_to-answer.new.index.pairs (answer_text c.answer_to-answer.new.index.pairs c.answer_to-answer.result) _ _ (λ e. false≢true (c.if-is_empty.ensures.1 e)) c.answer_to-answer.ensures.says c.write_answer.result c.write_answer.ensures
