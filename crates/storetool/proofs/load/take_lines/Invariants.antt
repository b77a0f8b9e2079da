use Rattle.std.proofs.Common.{[], None, Ok, take}
use Rattle.storetool.specs.Loads.{Loads}
use Rattle.storetool.specs.Session.{Steps}
use Rattle.storetool.proofs.load.take_lines.Given as goal

-- the effect of the bytes so far
abbrev pub invariant-loop-byte : goal.invariant-loop-byte
invariant-loop-byte g l = Steps Loads g.D.Disk.is_clean g.D.Disk.may_leave {T = Unit {0}} {E = Unit {0}} (take l.byte-index l.bytes) [] l.fn.line l.fn.store [] l.line l.store None None (Ok tt)
