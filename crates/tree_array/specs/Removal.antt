-- What a removal answers and leaves.
use Rattle.std.specs.Prelude.{◌≡◌, Bool, true, false, if◌then◌else◌}
use Rattle.std.specs.declared.cmp.Ordering.{Ordering}
use Rattle.tree_array.specs.declared.answers.RemoveResult.{RemoveResult}
use Rattle.tree_array.specs.declared.answers.RemoveResult.TheVariants.{Success, Retired, Fail}
use Rattle.tree_array.specs.Arrivals.{Arrivals, removed}

module _ {K V : Type 0} where
  -- what a removal answers that leaves this array
  abbrev pub removal_of : Arrivals K V → RemoveResult
  removal_of array = if array.retired then Retired else Success

  -- what the condition said decides whether the key goes
  abbrev pub IsRemoval : (K → K → Ordering) → Arrivals K V → K → Bool → RemoveResult → Arrivals K V → Type 0
  IsRemoval cmp old key true result new = (new ≡ removed cmp old key) × (result ≡ removal_of new)
  IsRemoval cmp old key false result new = (new ≡ old) × (result ≡ Fail)
