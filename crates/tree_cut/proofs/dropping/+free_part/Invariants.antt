use Rattle.tree_cut.proofs.Common.{◌-◌, part_id}
use Rattle.tree_cut.proofs.Frees.{AreFreed}
use Rattle.tree_cut.proofs.dropping.+free_part.Given as goal

abbrev pub decreases-free_part : goal.decreases-free_part
decreases-free_part g l = l.level

abbrev pub invariant-loop-place : goal.invariant-loop-place
invariant-loop-place g l = AreFreed g.K.Ord.cmp l.level (l.level - 1) l.fn.arenas l.arenas (part_id l.part) l.node l.place l.gone
