-- What leaves some slots, place by place, and stands in the first ones of other slots then.
use Rattle.std.specs.Prelude.{◌≡◌, ◌≢◌, ℕ, ◌+◌, ◌<◌, ◌≤◌, List, Option, None, slice_index_or}
use Rattle.tree_cells.specs.Order.{named}

module _ {X : Type 0} where
  -- the slots of the places from one up to another are empty, and the other slots are what they were
  pub record HasLeft (old new : List (Option X)) (order from end : ℕ) : Type 0 where
    pub gone : (i : ℕ) → from ≤ i → i < end → slice_index_or new (named order i) None ≡ None
    pub others : (p : ℕ) → ((i : ℕ) → from ≤ i → i < end → named order i ≢ p) → slice_index_or new p None ≡ slice_index_or old p None

  -- the first slots hold what the places from one up to another name, in turn, and no other slot holds anything
  pub record HasInTurn (old new : List (Option X)) (order from end : ℕ) : Type 0 where
    pub here : (i : ℕ) → from + i < end → slice_index_or new i None ≡ slice_index_or old (named order (from + i)) None
    pub none : (i : ℕ) → end ≤ from + i → slice_index_or new i None ≡ None
