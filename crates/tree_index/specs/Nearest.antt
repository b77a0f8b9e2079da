-- The pair of a key or, if it is absent, the nearest one on one side of it.
use Rattle.std.specs.Prelude.{List, Option}
use Rattle.std.specs.Option.{option_or}
use Rattle.std.specs.declared.cmp.Ordering.{Ordering}
use Rattle.tree_leaf.specs.Walks.{first_of, last_of}
use Rattle.tree_model.specs.Pairs.{above, below, pair_at}

module _ {K V : Type 0} (cmp : K → K → Ordering) where
  -- or the last one whose key is smaller
  abbrev pub at_or_below : List (K × V) → K → Option (K × V)
  at_or_below pairs key = option_or (pair_at cmp pairs key) (last_of (below cmp pairs key))

  -- or the first one whose key is larger
  abbrev pub at_or_above : List (K × V) → K → Option (K × V)
  at_or_above pairs key = option_or (pair_at cmp pairs key) (first_of (above cmp pairs key))
