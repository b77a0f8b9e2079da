use Rattle.std.proofs.Common.{reverse}
use Rattle.tree_model.specs.declared.way.Way.TheVariants.{Back}
use Rattle.tree_cursors.specs.Ranged.{moves_left}
use Rattle.tree_lines.specs.Spelling.{with_feed}
use Rattle.tree_lines.specs.Lines.{pairs_text}
use Rattle.tree_lines.proofs.Pieces.{IsLineBegun}
use Rattle.tree_lines.proofs.pairs.write_descending.Given as goal

-- the pairs that the cursor has still to give are left of the line
abbrev pub invariant-loop-key : goal.invariant-loop-key
invariant-loop-key g l = IsLineBegun Back (with_feed (pairs_text (reverse l.fn.index.pairs))) (g.W.Write.contents l.fn.output) (g.W.Write.contents l.output) l.is_first l.pairs

abbrev pub decreases-loop-key : goal.decreases-loop-key
decreases-loop-key g l = moves_left l.pairs
