use Rattle.std.proofs.Common.{◌≡◌, ℕ, ◌-◌, ◌<◌, ◌≤◌, get_or}
use Rattle.tree_texts.proofs.prefix_end.up_to_last_below_255.Given as goal

abbrev pub invariant-loop-i : goal.invariant-loop-i
invariant-loop-i l = record {
  within : l.kept ≤ l.i;
  last : 0 < l.kept → get_or l.bytes (l.kept - 1) 0 < 255;
  after : (k : ℕ) → l.kept ≤ k → k < l.i → get_or l.bytes k 0 ≡ 255;
}
