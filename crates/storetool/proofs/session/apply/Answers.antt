use Rattle.std.proofs.Common.{refl}
use Rattle.tree_lines.specs.Progress.{answer_text}
use Rattle.storetool.proofs.Answered.{says_read}
use Rattle.storetool.proofs.session.apply.Goals as goal

pub returns-in-Ok-clause-says : goal.returns-in-Ok-clause-says
returns-in-Ok-clause-says g c = (
  answer_text c.respond-answer.new.store.pairs c.respond-answer.result,
  rw c.index.ensures at c.in-Ok.ensures,
  λ begun kept. says_read c.args.store.now.pairs c.respond-answer.new.store.pairs begun (answer_text c.respond-answer.new.store.pairs c.respond-answer.result) c.request_in-request.result (c.request_in-request.ensures begun kept) c.respond-answer.ensures.responds,
)
