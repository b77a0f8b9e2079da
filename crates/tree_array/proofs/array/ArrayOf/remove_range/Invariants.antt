use Rattle.tree_array.proofs.Lemmas.{bound_map, IsCutTo}
use Rattle.tree_array.proofs.array.ArrayOf.remove_range.Given as goal

abbrev pub invariant-loop-slot : goal.invariant-loop-slot
invariant-loop-slot g l = IsCutTo g.K.Ord.cmp (bound_map (λ key. key.now) l.bounds.0) (bound_map (λ key. key.now) l.bounds.1) l.initial.self l.slot l.self
