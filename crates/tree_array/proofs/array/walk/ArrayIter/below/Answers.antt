use Rattle.tree_array.proofs.Lemmas.{rules}
use Rattle.tree_array.proofs.Places.{below_place}
use Rattle.tree_array.proofs.array.walk.ArrayIter.below.Goals as goal

pub past-requires : goal.past-requires
past-requires g c = (search rules, c.place_for.ensures.parts.within)

pub returns-clause-passed : goal.returns-clause-passed
returns-clause-passed g c = rw c.past.ensures.passed (below_place g.met.K.Ord.total c.place_for.ensures.parts)
