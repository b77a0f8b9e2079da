-- Where a key is in a list of pairs.
use Rattle.std.specs.Prelude.{ℕ, ◌-◌, ◌==◌, Bool, if◌then◌else◌, List, length, is_some}
use Rattle.std.specs.declared.cmp.Ordering.{Ordering}
use Rattle.tree_model.specs.Pairs.{below, pair_at}
use Rattle.tree_model.specs.declared.proximity.ProximityOf.{ProximityOf}
use Rattle.tree_model.specs.declared.proximity.ProximityOf.TheVariants.{Exact, Between, Smaller, Larger, Empty}
use Rattle.tree_model.specs.Cursor.{Cursor, unopened, at_place, with_ends}

module _ {K V : Type 0} where
  -- by the number n of smaller keys, and whether the key is present
  abbrev pub located_at : List (K × V) → ℕ → Bool → ProximityOf (Cursor K V)
  located_at l n present =
      if length l == 0 then Empty
      else if present then Exact (with_ends l (at_place n) unopened)
      else if n == 0 then Larger (with_ends l (at_place 0) unopened)
      else if n == length l then Smaller (with_ends l unopened (at_place (n - 1)))
      else Between (with_ends l (at_place (n - 1)) (at_place n))

  abbrev pub located : (K → K → Ordering) → List (K × V) → K → ProximityOf (Cursor K V)
  located cmp l k = located_at l (length (below cmp l k)) (is_some (pair_at cmp l k))
