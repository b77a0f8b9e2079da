use Rattle.std.proofs.Common.{[], ◌∷◌, refl}
use Rattle.tree_model.proofs.Common.{err_from_is_err_and, false≢true}
use Rattle.storetool.proofs.Scripts.{one_more, script_one, scripts}
use Rattle.storetool.proofs.Sessions.{ends_early, ends_empty, ends_line}
use Rattle.storetool.proofs.serve.end.Goals as goal

-- no line is begun
pub returns-then-is_empty : goal.returns-then-is_empty
returns-then-is_empty g c = ends_empty scripts g.D.Disk.is_clean g.D.Disk.may_leave c.args.group.now.answers.items c.args.line.now c.args.store.now c.commit.new.store _ _ c.commit.result (c.if-is_empty.ensures.0 refl) record { safe = c.commit.ensures.durable; wrote = c.commit.ensures.wrote; same = c.commit.ensures.pairs; broke_off = c.commit.ensures.broke_off }

-- the line could not be applied
pub returns-in_err-apply : goal.returns-in_err-apply
returns-in_err-apply g c =
    let failed = err_from_is_err_and c.from_residual.result c.from_residual.ensures.1 in
    rw (failed.1) (ends_early scripts g.D.Disk.is_clean g.D.Disk.may_leave c.args.group.now.answers.items c.args.line.now c.args.store.now c.apply.new.store _ c.apply.ensures.saved)

-- the line was applied
pub returns : goal.returns
returns g c =
    let says = c.in_ok-apply.ensures.says in
    ends_line scripts g.D.Disk.is_clean g.D.Disk.may_leave c.args.group.now.answers.items c.args.line.now c.args.store.now c.apply.new.store c.commit-2.new.store c.apply.new.group.answers.items (says.0 ∷ []) _ _ c.commit-2.result (λ empty. false≢true (c.if-is_empty.ensures.1 empty)) c.apply.ensures.saved (one_more _ _ says.0 says.1) (λ begun kept. script_one _ _ begun says.0 (says.2 begun kept)) record { safe = c.commit-2.ensures.durable; wrote = c.commit-2.ensures.wrote; same = c.commit-2.ensures.pairs; broke_off = c.commit-2.ensures.broke_off }
