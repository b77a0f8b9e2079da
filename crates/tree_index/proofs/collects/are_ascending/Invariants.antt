use Rattle.std.proofs.Common.{length}
use Rattle.tree_model.proofs.Common.{IsAscending}
use Rattle.tree_index.proofs.collects.are_ascending.Given as goal

-- what was passed ascends where the rest does
abbrev pub invariant-loop-rest : goal.invariant-loop-rest
invariant-loop-rest g l = record {
  whole : IsAscending g.K.Ord.cmp l.rest → IsAscending g.K.Ord.cmp l.pairs;
  rest : IsAscending g.K.Ord.cmp l.pairs → IsAscending g.K.Ord.cmp l.rest;
}

abbrev pub decreases-loop-rest : goal.decreases-loop-rest
decreases-loop-rest g l = length l.rest
