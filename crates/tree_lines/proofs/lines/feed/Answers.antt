use Rattle.std.proofs.Common.{[]}
use Rattle.tree_model.proofs.Common.{err_from_is_err_and}
use Rattle.std.proofs.KnownBytes.{Appends-nil}
use Rattle.tree_lines.specs.Spelling.{with_feed}
use Rattle.tree_lines.specs.Progress.{answer_text}
use Rattle.tree_lines.proofs.Steps.{carries_byte, carries_line, breaks_line}
use Rattle.tree_node.proofs.Common.{fits}
use Rattle.tree_lines.proofs.lines.feed.Goals as goal

pub push-requires : goal.push-requires
push-requires g c = search fits

-- the line goes on
pub returns-then-byte-ne10 : goal.returns-then-byte-ne10
returns-then-byte-ne10 g c = ([], Appends-nil _, carries_byte g.row.LEN c.args.line.now c.push.new.self c.args.index.now.pairs c.args.byte c.if-byte-ne10.true c.push.ensures)

pub answer_to-answer-requires : goal.answer_to-answer-requires
answer_to-answer-requires g c = search fits

pub write_answer-requires : goal.write_answer-requires
write_answer-requires g c = search fits

-- the line was answered, but its answer broke off
pub returns-in_err-write_answer : goal.returns-in_err-write_answer
returns-in_err-write_answer g c =
    let failed = err_from_is_err_and c.from_residual.result c.from_residual.ensures.1 in
    let wrote = c.in_err-write_answer.ensures in
    rw (failed.1, c.if-byte-ne10.false) (wrote.0, wrote.1, breaks_line g.row.LEN c.args.line.now c.args.index.now.pairs c.answer_to-answer.new.index.pairs (answer_text c.answer_to-answer.new.index.pairs c.answer_to-answer.result) wrote.0 c.answer_to-answer.ensures.says wrote.2)

pub clear-requires : goal.clear-requires
clear-requires g c = search fits

-- the line was answered
pub returns : goal.returns
returns g c =
    (with_feed (answer_text c.answer_to-answer.new.index.pairs c.answer_to-answer.result), c.in_ok-write_answer.ensures, rw (c.if-byte-ne10.false, c.clear.ensures) (carries_line g.row.LEN c.args.line.now c.args.index.now.pairs c.answer_to-answer.new.index.pairs (answer_text c.answer_to-answer.new.index.pairs c.answer_to-answer.result) c.answer_to-answer.ensures.says))
