-- Which way a walk goes, and how it sees a list.
use Rattle.std.specs.Prelude.{List, reverse}
use Rattle.tree_model.specs.declared.way.Way.{Way}
use Rattle.tree_model.specs.declared.way.Way.TheVariants.{On, Back}

abbrev pub opposite : Way → Way
opposite On = Back
opposite Back = On

-- a list in the order of a walk this way
abbrev pub along : {X : Type 0} → Way → List X → List X
along On xs = xs
along Back xs = reverse xs
