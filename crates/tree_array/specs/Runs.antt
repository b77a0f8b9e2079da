-- Pairs that were gathered in ascending order, in the first cells, in turn.
use Rattle.std.specs.Prelude.{◌≡◌, ℕ, List, Option}
use Rattle.std.specs.List.{range_with_len}
use Rattle.std.specs.declared.cmp.Ordering.{Ordering}
use Rattle.tree_cells.specs.Arrivals.{held}
use Rattle.tree_cells.specs.Tabled.{IsTabled}

module _ {K V : Type 0} where
  -- the pairs of the first cells
  abbrev pub gathered : List (Option (K × V)) → ℕ → List (K × V)
  gathered cells count = held cells (range_with_len 0 count)

  -- all pairs stand there, and none was spent
  pub record IsRun (cmp : K → K → Ordering) (len : ℕ) (cells : List (Option (K × V))) (count made : ℕ) : Type 0 where
    pub table : IsTabled cmp len cells (range_with_len 0 count) made
    pub all : made ≡ count
