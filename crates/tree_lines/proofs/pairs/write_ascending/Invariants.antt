use Rattle.tree_model.specs.declared.way.Way.TheVariants.{On}
use Rattle.tree_lines.specs.Spelling.{with_feed}
use Rattle.tree_lines.specs.Lines.{inside, pairs_text}
use Rattle.tree_lines.proofs.Pieces.{IsLineBegun}
use Rattle.tree_lines.proofs.pairs.write_ascending.Given as goal

-- the pairs that the cursor has still to give are left of the line
abbrev pub invariant-loop-key : goal.invariant-loop-key
invariant-loop-key g l = IsLineBegun On (with_feed (pairs_text (inside l.fn.low l.fn.high l.fn.index.pairs))) (g.W.Write.contents l.fn.output) (g.W.Write.contents l.output) l.is_first l.key-iterator
