use Rattle.std.proofs.Common.{[], None, refl, sym}
use Rattle.storetool.proofs.Loading.{loads, loads_one}
use Rattle.storetool.proofs.Sessions.{step_byte, step_line}
use Rattle.storetool.proofs.load.take.Goals as goal

-- the line goes on
pub returns-then-byte-ne10-clause-taken : goal.returns-then-byte-ne10-clause-taken
returns-then-byte-ne10-clause-taken g c = step_byte loads g.D.Disk.is_clean g.D.Disk.may_leave c.args.store.now [] c.args.line.now None c.push.new.self c.args.byte c.if-byte-ne10.true c.push.ensures

-- its pair was stored
pub returns-clause-taken : goal.returns-clause-taken
returns-clause-taken g c =
    let pair = c.in_ok-store_pair.ensures.stored in
    rw (c.if-byte-ne10.false, c.clear.ensures)
    (step_line loads g.D.Disk.is_clean g.D.Disk.may_leave c.args.store.now [] c.args.line.now None c.store_pair.new.store [] [] c.store_pair.ensures.saved refl (λ begun kept. loads_one _ _ begun pair.0 (pair.1 begun kept) pair.2))
