use Rattle.std.proofs.Common.{◌-◌}
use Rattle.storetool.proofs.image.read_whole.Given as goal

abbrev pub decreases-loop-at : goal.decreases-loop-at
decreases-loop-at g l = l.length - l.at
