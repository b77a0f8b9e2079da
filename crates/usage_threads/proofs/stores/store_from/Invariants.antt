use Rattle.usage_threads.specs.Inserts.{IsOfInserts}
use Rattle.usage_threads.proofs.stores.store_from.Given as goal

-- each number so far was inserted, and nothing else was called
abbrev pub invariant-loop-number : goal.invariant-loop-number
invariant-loop-number g l = IsOfInserts l.number l.pass
