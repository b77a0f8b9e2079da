use Rattle.std.proofs.Common.{◌≡◌, ◌+◌, ◌<◌, ◌≤◌, ◌^◌, ◌++◌, length, decimal}
use Rattle.tree_lines.proofs.short_text.ShortText.push_number_front.Given as goal

-- the digits of the rest are still to be prepended
abbrev pub invariant-loop-rest : goal.invariant-loop-rest
invariant-loop-rest l = record {
  put : decimal l.n ++ l.fn.self ≡ decimal l.rest ++ l.self;
  room : length (decimal l.rest) + length l.self ≤ 42;
  small : l.rest < 2 ^ 64;
}

abbrev pub decreases-loop-rest : goal.decreases-loop-rest
decreases-loop-rest l = l.rest
