-- Arrivals of an array, each a reachable pair or spent, and the reachable ones in the order of their keys.
use Rattle.std.specs.Prelude.{ℕ, suc, ◌+◌, List, [], ◌∷◌, Option, None, Some, map, find, if◌then◌else◌, slice_index_or}
use Rattle.std.specs.declared.cmp.Ordering.{Ordering}
use Rattle.std.specs.Ordering.{is_lt, is_eq, is_ge}
use Rattle.std.specs.declared.ops.Bound.{Bound}
use Rattle.tree_model.specs.Pairs.{put, within}

module _ {K V : Type 0} where
  -- the pair of an arrival, unless it is spent or was never made
  abbrev pub arrival : List (Option (K × V)) → ℕ → Option (K × V)
  arrival arrivals p = slice_index_or arrivals p None

  -- the pairs that are reachable, in the order of their arrival
  abbrev pub reachable : List (Option (K × V)) → List (K × V)
  reachable [] = []
  reachable (None ∷ arrivals) = reachable arrivals
  reachable (Some pair ∷ arrivals) = pair ∷ reachable arrivals

  -- the pairs of these slots
  abbrev pub held : List (Option (K × V)) → List ℕ → List (K × V)
  held cells slots = reachable (map (arrival cells) slots)

  -- the keys that are reachable, each with the number of its arrival, from this number on
  abbrev pub numbered : ℕ → List (Option (K × V)) → List (K × ℕ)
  numbered n [] = []
  numbered n (None ∷ arrivals) = numbered (suc n) arrivals
  numbered n (Some pair ∷ arrivals) = (pair.0, n) ∷ numbered (suc n) arrivals

  module _ (cmp : K → K → Ordering) where
    -- an arrival of this key is spent
    abbrev pub spent_at : K → Option (K × V) → Option (K × V)
    spent_at key None = None
    spent_at key (Some pair) = if is_eq (cmp pair.0 key) then None else Some pair

    abbrev pub spend : List (Option (K × V)) → K → List (Option (K × V))
    spend arrivals key = map (spent_at key) arrivals

    -- an arrival within the bounds is spent
    abbrev pub cut_at : Bound K → Bound K → Option (K × V) → Option (K × V)
    cut_at low high None = None
    cut_at low high (Some pair) = if within cmp low high pair.0 then None else Some pair

    -- the pairs, each put at its place by key
    abbrev pub sorted : List (K × V) → List (K × V)
    sorted [] = []
    sorted (pair ∷ pairs) = put cmp (sorted pairs) pair.0 pair.1

    -- the entry with the least key that isn't less than this one
    abbrev pub least_from : List (K × V) → K → Option (K × V)
    least_from pairs key = find (λ pair. is_ge (cmp pair.0 key)) pairs

    -- how many neighbours ascend
    abbrev pub ascents : List (K × V) → ℕ
    ascents [] = 0
    ascents (pair ∷ []) = 0
    ascents (pair ∷ next ∷ pairs) = (if is_lt (cmp pair.0 next.0) then 1 else 0) + ascents (next ∷ pairs)
