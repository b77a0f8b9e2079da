use Rattle.std.proofs.Common.{◌≡◌}
use Rattle.tree_texts.specs.Head.{leading}
use Rattle.tree_texts.proofs.head.head_of_few.Given as goal

abbrev pub invariant-loop-at : goal.invariant-loop-at
invariant-loop-at l = l.head ≡ leading l.at l.bytes
