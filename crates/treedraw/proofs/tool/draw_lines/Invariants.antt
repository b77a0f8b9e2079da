use Rattle.std.proofs.Common.{length}
use Rattle.treedraw.proofs.tool.draw_lines.Given as goal

abbrev pub decreases-loop-left : goal.decreases-loop-left
decreases-loop-left g l = length l.left
