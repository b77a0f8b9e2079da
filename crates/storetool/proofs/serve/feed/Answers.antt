use Rattle.std.proofs.Common.{◌∷◌, [], None, Some}
use Rattle.tree_model.proofs.Common.{err_from_is_err_and}
use Rattle.storetool.proofs.Scripts.{one_more, script_one, scripts}
use Rattle.storetool.proofs.Sessions.{step_byte, step_fails, step_line, step_then}
use Rattle.storetool.proofs.serve.feed.Goals as goal

-- the line goes on
pub returns-then-byte-ne10 : goal.returns-then-byte-ne10
returns-then-byte-ne10 g c = step_byte scripts g.D.Disk.is_clean g.D.Disk.may_leave c.args.store.now c.args.group.now.answers.items c.args.line.now _ c.push.new.self c.args.byte c.if-byte-ne10.true c.push.ensures

-- the line could not be applied
pub returns-in_err-apply : goal.returns-in_err-apply
returns-in_err-apply g c =
    let failed = err_from_is_err_and c.from_residual.result c.from_residual.ensures.1 in
    rw (failed.1) (step_fails scripts g.D.Disk.is_clean g.D.Disk.may_leave c.args.store.now c.args.group.now.answers.items c.args.line.now _ _ [] None c.apply.new.store c.apply.ensures.saved)

-- the line was applied, and committed if that is due
pub returns : goal.returns
returns g c =
    let says = c.in_ok-apply.ensures.says in
    rw (c.if-byte-ne10.false, c.clear.ensures)
    (step_then scripts g.D.Disk.is_clean g.D.Disk.may_leave (10 ∷ []) [] _ _ _ _ (Some []) _ _ _ _ _ _ _ c.commit_if_due.result (step_line scripts g.D.Disk.is_clean g.D.Disk.may_leave c.args.store.now c.args.group.now.answers.items c.args.line.now _ c.apply.new.store c.apply.new.group.answers.items (says.0 ∷ []) c.apply.ensures.saved (one_more _ _ says.0 says.1) (λ begun kept. script_one _ _ begun says.0 (says.2 begun kept))) (c.commit_if_due.ensures (Some [])))
