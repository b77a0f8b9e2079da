use Rattle.std.proofs.Common.{subst}
use Rattle.store_log.specs.Spare.{IsOlder}
use Rattle.store_log.specs.declared.head.Head.{Head}
use Rattle.store_log.proofs.Spares.{head_once}
use Rattle.store_pair.proofs.inspect.is_counted.Goals as goal

pub returns-in-Some : goal.returns-in-Some
returns-in-Some c = (
  λ e. record { head = c.in-Some.head; headed = c.in-Some.ensures.found; older = c.is_older.ensures.0 e },
  λ k. c.is_older.ensures.1 (subst (λ (h : Head). IsOlder h.generation c.args.other.now) (head_once c.args.one.now k.head c.in-Some.head k.headed c.in-Some.ensures.found) k.older),
)

pub returns-in-None : goal.returns-in-None
returns-in-None c = (λ e. let z : ⊥ = cc e in absurd z, λ k. absurd (c.in-None.ensures.none k.head k.headed))
