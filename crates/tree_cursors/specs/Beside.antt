-- Where an absent key is, by the end that stands on the nearest larger one.
use Rattle.std.specs.Prelude.{Bool, false, if◌then◌else◌, List, Option, None, Some, is_some}
use Rattle.std.specs.Ordering.{is_eq}
use Rattle.std.specs.declared.cmp.Ordering.{Ordering}
use Rattle.std.specs.declared.ops.Bound.TheVariants.{Unbounded}
use Rattle.tree_model.specs.declared.way.Way.TheVariants.{Back}
use Rattle.tree_model.specs.declared.proximity.ProximityOf.{ProximityOf}
use Rattle.tree_model.specs.declared.proximity.ProximityOf.TheVariants.{Between, Smaller, Larger, Empty}
use Rattle.tree_model.specs.Cursor.{Cursor, End, unopened, element_at, next_end, with_ends}

module _ {K V : Type 0} (cmp : K → K → Ordering) (l : List (K × V)) where
  -- there is no larger key
  abbrev pub located_past : ProximityOf (Cursor K V)
  located_past =
      let last = next_end cmp Back Unbounded l unopened in
      if is_some (element_at l last) then Smaller (with_ends l unopened last) else Empty

  -- the end stands on the nearest larger key
  abbrev pub located_beside : End → ProximityOf (Cursor K V)
  located_beside end =
      let before = next_end cmp Back Unbounded l end in
      if is_some (element_at l before) then Between (with_ends l before end) else Larger (with_ends l end unopened)

-- the pair, if it is one, has a key that equals k
abbrev pub is_at : {K V : Type 0} → (K → K → Ordering) → K → Option (K × V) → Bool
is_at cmp k None = false
is_at cmp k (Some pair) = is_eq (cmp pair.0 k)
