-- The children of a node that are still to come, on a walk either way.
use Rattle.std.specs.Prelude.{◌≡◌, ℕ, List, ◌++◌, map, Option, Some, option_to_list}
use Rattle.tree_array.specs.Arrivals.{Arrivals, arrival}
use Rattle.tree_array.specs.Walk.{Walk}
use Rattle.tree_model.specs.declared.way.Way.{Way}
use Rattle.tree_leaf.specs.Ways.{ahead}

module _ {K X : Type 0} (keyed : Arrivals K X) where
  -- the keyed children in order
  abbrev pub keyed_children : List X
  keyed_children = map (λ c. c.1) keyed.entries

  -- and then the unbounded one
  abbrev pub all_children : Option X → List X
  all_children unbounded = keyed_children ++ option_to_list unbounded

  -- the walk is over the slots of the entries
  abbrev pub IsOverKeyed : Walk → Type 0
  IsOverKeyed walk = map (arrival keyed.arrivals) walk.slots ≡ map Some keyed.entries

-- the keyed children ahead of a walk, between one that comes before them and one that comes behind
abbrev pub to_come : {X : Type 0} → Way → List X → Option ℕ → Option X → Option X → List X
to_come way children at first last = option_to_list first ++ (ahead way children at ++ option_to_list last)
