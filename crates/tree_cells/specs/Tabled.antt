-- How the cells of an array and its order hang together.
use Rattle.std.specs.Prelude.{◌≡◌, ◌≢◌, ℕ, ◌<◌, ◌≤◌, List, map, length, Option, None, Some}
use Rattle.std.specs.List.{Contains}
use Rattle.std.specs.declared.cmp.Ordering.{Ordering}
use Rattle.tree_model.specs.Pairs.{IsAscending}
use Rattle.tree_cells.specs.Arrivals.{arrival, held}
use Rattle.tree_cells.specs.Length.{IsLen}
use Rattle.tree_cells.specs.Order.{names, IsOrder}

-- one function is another but for its answer at p
pub record IsSetAt {A : Type 0} (old new : ℕ → A) (p : ℕ) (x : A) : Type 0 where
  pub here : new p ≡ x
  pub others : (q : ℕ) → q ≢ p → new q ≡ old q

module _ {K V : Type 0} (cmp : K → K → Ordering) where
  -- each of these slots has a pair, and their keys ascend
  pub record IsInOrder (cells : List (Option (K × V))) (slots : List ℕ) : Type 0 where
    pub stand : map (arrival cells) slots ≡ map Some (held cells slots)
    pub ascend : IsAscending cmp (held cells slots)

  -- the slots that an order names are such, and there are some
  pub record AreSlots (len : ℕ) (cells : List (Option (K × V))) (word count : ℕ) : Type 0 where
    pub in_order : IsInOrder cells (names word count)
    pub order : IsOrder len word count
    pub some : 0 < count

  -- each cell with a pair is that of an arrival, and is one of these slots
  pub record IsTabled (len : ℕ) (cells : List (Option (K × V))) (slots : List ℕ) (made : ℕ) : Type 0 where
    pub is_len : IsLen len
    pub whole : length cells ≡ len
    pub few_made : made ≤ len
    pub few : length slots ≤ made
    pub unmade : (p : ℕ) → made ≤ p → arrival cells p ≡ None
    pub in_order : IsInOrder cells slots
    pub listed : (p : ℕ) (e : K × V) → arrival cells p ≡ Some e → Contains slots p
