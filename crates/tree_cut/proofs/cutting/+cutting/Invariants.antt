use Rattle.tree_cut.proofs.Common.{◌*◌, ◌-◌, bound_map}
use Rattle.tree_cut.proofs.CutLoop.{CutState}
use Rattle.tree_cut.proofs.cutting.+cutting.Given as goal

abbrev pub decreases-cut_part : goal.decreases-cut_part
decreases-cut_part g l = 2 * l.level

abbrev pub decreases-cut_child : goal.decreases-cut_child
decreases-cut_child g l = 2 * l.level - 1

abbrev pub invariant-cut_part-loop-place : goal.invariant-cut_part-loop-place
invariant-cut_part-loop-place g l =
    CutState g.K.Ord.cmp (bound_map (λ k. k.now) l.bounds.0) (bound_map (λ k. k.now) l.bounds.1) l.first l.last
    l.level l.initial.arenas l.arenas l.id l.place l.gone

abbrev pub decreases-cut_part-loop-place : goal.decreases-cut_part-loop-place
decreases-cut_part-loop-place g l = l.place
