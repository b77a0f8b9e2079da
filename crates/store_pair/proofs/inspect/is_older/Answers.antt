use Rattle.std.proofs.Common.{◌<◌, arith}
use Rattle.std.proofs.lemmas.Bool.Decides.{nat_tests}
use Rattle.store_log.proofs.Spares.{headed_older}
use Rattle.store_pair.proofs.inspect.is_older.Goals as goal

pub returns-in-Some : goal.returns-in-Some
returns-in-Some c = (
  λ e.
      let less : c.in-Some.head.generation < c.args.generation = grind (arith, nat_tests, e) in
      headed_older c.args.generation c.in-Some.head c.args.bytes.now c.in-Some.ensures.found less,
  λ o. let less : c.in-Some.head.generation < c.args.generation = o.older c.in-Some.head c.in-Some.ensures.found in grind (arith, nat_tests, less),
)

pub returns-in-None : goal.returns-in-None
returns-in-None c = (
  λ e. record { spare = c.is_spare.ensures.0 e; older = λ head h. absurd (c.in-None.ensures.none head h) },
  λ o. c.is_spare.ensures.1 o.spare,
)
