use Rattle.std.proofs.Common.{◌≡◌, vec_len}
use Rattle.usage.proofs.holders.parts_of_market.Given as goal

-- so many have been made
abbrev pub invariant-loop : goal.invariant-loop
invariant-loop l = vec_len l.parts ≡ l.counter
