use Rattle.std.proofs.Common.{ne_eqb}
use Rattle.port_calls.proofs.approximate.approximate_at.Goals as goal

pub returns-in_err-walk : goal.returns-in_err-walk
returns-in_err-walk g c = rw (ne_eqb g.row.LE 0 c.if-this-ne0.true, c.from_residual.ensures) c.in_err-walk.ensures

pub returns-in_ok-walk : goal.returns-in_ok-walk
returns-in_ok-walk g c = rw (ne_eqb g.row.LE 0 c.if-this-ne0.true, c.rev.ensures) c.in_ok-walk.ensures
