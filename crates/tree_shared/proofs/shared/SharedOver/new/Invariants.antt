use Rattle.std.proofs.Common.{◌≡◌, ◌+◌, vec_len, All}
use Rattle.tree_state.specs.Tallies.{none}
use Rattle.tree_shared.proofs.shared.SharedOver.new.Given as goal

abbrev pub invariant-loop-i : goal.invariant-loop-i
invariant-loop-i g l = record {
  parts : l.ledgers.parts + l._i ≡ l.fn.workers + 1;
  kept : l.ledgers.kept ≡ none;
  totals : l.ledgers.totals ≡ none;
  count : vec_len l.passes ≡ l._i;
  zero : All (λ p. p ≡ none) l.passes.items;
}
