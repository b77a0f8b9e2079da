-- How contracts see an array, and what its fields keep.
use Rattle.std.specs.Prelude.{ℕ, Bool, List, Option}
use Rattle.std.specs.declared.cmp.Ordering.{Ordering}
use Rattle.tree_cells.specs.Arrivals.{held}
use Rattle.tree_cells.specs.Tabled.{IsTabled}
use Rattle.tree_cells.specs.Order.{is_retired, names, picked, IsOrder}
use Rattle.tree_array.specs.Arrivals.{Arrivals, arrival}

module _ {K V : Type 0} where
  -- what contracts see of cells, of the slots of the entries there, and of a mark
  abbrev pub shown : List (Option (K × V)) → List ℕ → ℕ → Bool → Arrivals K V
  shown cells slots made retired = record {
    arrivals = picked (arrival cells) made;
    retired = retired;
    entries = held cells slots;
  }

  -- and of the fields of an array
  abbrev pub seen : List (Option (K × V)) → ℕ → ℕ → ℕ → Arrivals K V
  seen cells word count made = shown cells (names word count) made (is_retired word)

  pub record IsArray (cmp : K → K → Ordering) (len : ℕ) (cells : List (Option (K × V))) (word count made : ℕ) : Type 0 where
    pub table : IsTabled cmp len cells (names word count) made
    pub order : IsOrder len word count
