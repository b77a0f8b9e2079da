-- An entry of a part of a tree on one side of a key.
use Rattle.std.specs.Prelude.{◌≡◌, ℕ, true, List, ◌∷◌, ◌++◌, Option, Some, MatchOption}
use Rattle.std.specs.declared.cmp.Ordering.{Ordering}
use Rattle.std.specs.declared.ops.Bound.{Bound}
use Rattle.tree_model.specs.declared.way.Way.{Way}
use Rattle.tree_leaf.specs.Walks.{LeafWalk, stood_on}
use Rattle.tree_node.specs.Arenas.{TreeArenas}
use Rattle.tree_node.specs.Tree.{walk}
use Rattle.tree_model.specs.Cursor.{meets}
use Rattle.tree_cursors.specs.Seek.{NoneMeets}

module _ {K V : Type 0} {LEN : ℕ} (cmp : K → K → Ordering) (way : Way) (level : ℕ) (arenas : TreeArenas K V LEN) (id : ℕ) (bound : Bound K) where
  -- the walk stands on an entry of the part that is within the bound
  pub record StandsWithin (found : LeafWalk K V LEN) : Type 0 where
    pub same : found.leaves ≡ arenas.leaves
    pub front : List (K × V)
    pub pair : K × V
    pub back : List (K × V)
    pub parts : walk level arenas id ≡ front ++ pair ∷ back
    pub here : stood_on found ≡ Some pair
    pub met : meets cmp way bound pair.0 ≡ true

  -- or the part has no such entry
  abbrev pub Approximates : Option (LeafWalk K V LEN) → Type 0
  Approximates result = MatchOption result (NoneMeets cmp way bound (walk level arenas id)) StandsWithin
