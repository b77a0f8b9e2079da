-- The pair of a key or, if it is absent, the next one on a way.
use Rattle.std.specs.Prelude.{List, Option}
use Rattle.std.specs.declared.cmp.Ordering.{Ordering}
use Rattle.tree_index.specs.Nearest.{at_or_above, at_or_below}
use Rattle.tree_model.specs.declared.way.Way.{Way}
use Rattle.tree_model.specs.declared.way.Way.TheVariants.{On, Back}

abbrev pub nearest : {K V : Type 0} → Way → (K → K → Ordering) → List (K × V) → K → Option (K × V)
nearest On = at_or_above
nearest Back = at_or_below
