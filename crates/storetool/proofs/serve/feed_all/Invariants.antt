use Rattle.std.proofs.Common.{Ok, take}
use Rattle.storetool.specs.Answers.{Script}
use Rattle.storetool.specs.Session.{Steps}
use Rattle.storetool.proofs.serve.feed_all.Given as goal

-- the effect of the bytes so far
abbrev pub invariant-loop-byte : goal.invariant-loop-byte
invariant-loop-byte g l = Steps Script g.D.Disk.is_clean g.D.Disk.may_leave {T = Unit {0}} {E = Unit {0}} (take l.byte-index l.bytes) l.fn.group.answers.items l.fn.line l.fn.store l.group.answers.items l.line l.store (g.W.Write.contents l.fn.output) (g.W.Write.contents l.output) (Ok tt)
