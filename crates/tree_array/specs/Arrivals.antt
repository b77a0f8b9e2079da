-- What contracts see of an array: its arrivals, each a reachable pair or spent, whether it is retired, and its entries.
use Rattle.std.specs.Prelude.{ℕ, ◌+◌, ◌-◌, ◌*◌, ◌==◌, Bool, true, false, ◌||◌, ◌&&◌, not, List, [], ◌∷◌, ◌++◌, Option, None, Some, map, length, if◌then◌else◌, ltb, leb, slice_set}
use Rattle.std.specs.declared.cmp.Ordering.{Ordering}
use Rattle.std.specs.declared.ops.Bound.{Bound}
use Rattle.tree_model.specs.Pairs.{put, without, cut}
use Rattle.tree_array.specs.Length.{limit}
pub use Rattle.tree_cells.specs.Arrivals.{arrival, reachable, numbered, spent_at, spend, cut_at, sorted, least_from, ascents}

-- `entries` are the reachable pairs in the order of their keys
pub record Arrivals (K V : Type 0) : Type 0 where
  pub arrivals : List (Option (K × V))
  pub retired : Bool
  pub entries : List (K × V)

-- where to split, how many entries there are, and whether they all came in ascending order
abbrev pub boundary_of : ℕ → ℕ → ℕ → ℕ × ℕ × Bool
boundary_of len count rises =
    if leb count (limit len) then (len, count, false)
    else if ltb (2 * rises + 1) count then (rises + 1, count, false)
    else (rises, count, rises == len - 1)

module _ {K V : Type 0} where
  abbrev pub is_empty : List (K × V) → Bool
  is_empty pairs = length pairs == 0

  -- the array in which these pairs, ascending by key, arrived in turn
  abbrev pub in_order : List (K × V) → Arrivals K V
  in_order pairs = record { arrivals = map Some pairs; retired = false; entries = pairs }

  -- how many more arrivals there is room for
  abbrev pub free : ℕ → Arrivals K V → ℕ
  free len array = len - length array.arrivals

  -- the array with every arrival spent, which is retired
  abbrev pub drained : Arrivals K V → Arrivals K V
  drained array = record { arrivals = map (λ _. None) array.arrivals; retired = true; entries = [] }

  module _ (cmp : K → K → Ordering) where
    -- the array with a pair stored, by which an equal key's older arrival is spent
    abbrev pub stored : Arrivals K V → K → V → Arrivals K V
    stored array key val = record {
      arrivals = spend cmp array.arrivals key ++ Some (key, val) ∷ [];
      retired = array.retired;
      entries = put cmp array.entries key val;
    }

    -- the array with a key removed, which retires it with its last entry
    abbrev pub removed : Arrivals K V → K → Arrivals K V
    removed array key = record {
      arrivals = spend cmp array.arrivals key;
      retired = is_empty (without cmp array.entries key);
      entries = without cmp array.entries key;
    }

    -- the array without the keys within the bounds, which is retired if its last entry went
    abbrev pub without_range : Arrivals K V → Bound K → Bound K → Arrivals K V
    without_range array low high = record {
      arrivals = map (cut_at cmp low high) array.arrivals;
      retired = array.retired || (not (is_empty array.entries) && is_empty (cut cmp array.entries low high));
      entries = cut cmp array.entries low high;
    }

    -- the array with the value of a reachable slot replaced
    abbrev pub with_val : Arrivals K V → ℕ → K → V → Arrivals K V
    with_val array slot key val = record {
      arrivals = slice_set array.arrivals slot (Some (key, val));
      retired = array.retired;
      entries = put cmp array.entries key val;
    }

    abbrev pub boundary : ℕ → Arrivals K V → ℕ × ℕ × Bool
    boundary len array = boundary_of len (length array.entries) (ascents cmp (reachable array.arrivals))

-- the numbers of the reachable arrivals in the order of their keys
abbrev pub slots_in_order : {K V : Type 0} → (K → K → Ordering) → Arrivals K V → List ℕ
slots_in_order cmp array = map (λ slot. slot.1) (sorted cmp (numbered 0 array.arrivals))
