use Rattle.std.proofs.Common.{◌≡◌, ◌+◌, ◌≤◌, length}
use Rattle.tree_state.specs.Tallies.{sum_of}
use Rattle.tree_state.proofs.ledgers.Ledgers.take_all.Given as goal

abbrev pub invariant-loop-pass : goal.invariant-loop-pass
invariant-loop-pass g l = record {
  parts : l.self.parts ≡ 1 + length l.yielded;
  kept : l.self.kept ≡ sum_of l.yielded;
  within : l.self.parts ≤ g.B.Books.calls.parts;
  totals : l.self.totals ≡ l.initial.self.totals;
}
