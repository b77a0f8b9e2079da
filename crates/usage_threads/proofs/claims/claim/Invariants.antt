use Rattle.std.proofs.Common.{◌≡◌, ◌≤◌}
use Rattle.tree_state.specs.Tallies.{tally_of}
use Rattle.usage_threads.proofs.claims.claim.Given as goal

-- a call at most for each number so far, and nothing but claims
abbrev pub invariant-loop-number : goal.invariant-loop-number
invariant-loop-number g l = (l.pass.calls ≤ l.number-index) × (l.pass ≡ tally_of l.pass.calls l.pass.stored 0 0 0)
