use Rattle.std.proofs.Common.{ap, ◌∙◌, sym}
use Rattle.tree_model.specs.declared.commands.Reply.TheVariants.{Found}
use Rattle.tree_state.specs.Tallies.{raised}
use Rattle.tree_shared.proofs.Answered.{peek_reply}
use Rattle.tree_shared.proofs.shared.SharedOver.peek.Goals as goal

pub returns-in-Ok : goal.returns-in-Ok
returns-in-Ok g c = c.in-Ok.ensures.counted ∙ ap (λ r. raised c.args.pass.now r) (peek_reply c.in_ok-copy.copy c.in-Ok.reply c.in-Ok.ensures.kind) ∙ ap (λ found. raised {V = g.row.V.Denot} c.args.pass.now (Found found)) (sym c.found_value.ensures)
