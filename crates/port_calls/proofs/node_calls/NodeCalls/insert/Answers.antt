use Rattle.port_calls.proofs.FoundLevels.{rules, ◌≡◌, Ok, Err, refl, ap, err_from_is_err_and, Full, fits, given_at, may_change, retired_there}
use Rattle.port_calls.proofs.node_calls.NodeCalls.insert.Goals as goal

pub found_level-level-requires : goal.found_level-level-requires
found_level-level-requires g c κs within =
    (within.0, (within.1, (search rules, (search rules, (search fits, (g.Self.NodeCalls.above_leaves g.level (assumption c.requires), given_at (assumption c.requires)))))))

pub insert_at-requires : goal.insert_at-requires
insert_at-requires g c = (search rules, (search fits, may_change c.found_level-level.ensures (assumption c.requires)))

pub returns-in_err-answer-clause-inserts : goal.returns-in_err-answer-clause-inserts
returns-in_err-answer-clause-inserts g c part =
    let same = c.found_level-level.ensures.up part.stands in
    let failed = err_from_is_err_and c.from_residual.result c.from_residual.ensures.1 in
    record { told = Err c.in_err-answer.field-0.0; plain = rw failed.1 (ap Err failed.2); inserts = (rw same at c.in_err-answer.ensures.inserts) part }

pub returns-in_err-answer-clause-retired : goal.returns-in_err-answer-clause-retired
returns-in_err-answer-clause-retired g c retired = cc ((c.in_err-answer.ensures.retired (retired_there c.found_level-level.ensures retired)).0)

pub returns-clause-inserts : goal.returns-clause-inserts
returns-clause-inserts g c part =
    let same = c.found_level-level.ensures.up part.stands in
    record { told = Ok c.in_ok-answer.answer; plain = ap Ok c.into_insert.ensures; inserts = (rw same at c.in_ok-answer.ensures.inserts) part }

pub returns-clause-retired : goal.returns-clause-retired
returns-clause-retired g c retired =
    let told = c.in_ok-answer.ensures.retired (retired_there c.found_level-level.ensures retired) in
    let full : c.in_ok-answer.answer ≡ Full c.args.key c.args.val = let both = told.0 in cc in
    (rw (c.into_insert.ensures, full) refl, told.1)
