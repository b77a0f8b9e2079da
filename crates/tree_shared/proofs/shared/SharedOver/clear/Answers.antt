use Rattle.std.proofs.Common.{ap, ◌∙◌}
use Rattle.tree_state.specs.Tallies.{raised}
use Rattle.tree_shared.proofs.Answered.{clear_reply}
use Rattle.tree_shared.proofs.shared.SharedOver.clear.Goals as goal

pub returns-in-Ok : goal.returns-in-Ok
returns-in-Ok g c = c.in-Ok.ensures.counted ∙ ap (λ r. raised c.args.pass.now r) (clear_reply g.row.K.Denot c.in-Ok.field-0 c.in-Ok.ensures.kind)
