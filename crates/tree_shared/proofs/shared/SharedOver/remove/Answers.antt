use Rattle.std.proofs.Common.{ap, ◌∙◌, sym}
use Rattle.tree_model.specs.declared.commands.Reply.TheVariants.{Removed}
use Rattle.tree_state.specs.Tallies.{raised}
use Rattle.tree_shared.proofs.Answered.{remove_reply}
use Rattle.tree_shared.proofs.shared.SharedOver.remove.Goals as goal

pub returns-in-Ok : goal.returns-in-Ok
returns-in-Ok g c = c.in-Ok.ensures.counted ∙ ap (λ r. raised c.args.pass.now r) (remove_reply c.in_ok-copy.copy c.in-Ok.reply c.in-Ok.ensures.kind) ∙ ap (λ was. raised {V = g.row.V.Denot} c.args.pass.now (Removed was)) (sym c.is_removed.ensures)
