-- The elements of either of two ascending lists, of both, of the first alone, and of one alone.
use Rattle.std.specs.Prelude.{◌≡◌, true, false, not, List, filter}
use Rattle.std.specs.Set.{sorted_merge}
use Rattle.std.specs.declared.cmp.Ordering.{Ordering}
use Rattle.tree_set.specs.Sets.{IsAscending, has}

module _ {K : Type 0} (cmp : K → K → Ordering) (xs ys : List K) where
  -- both lists merged. Of two equal elements it has that of the first.
  abbrev pub union : List K
  union = sorted_merge cmp true xs ys

  -- the elements of the first list that the second has
  abbrev pub intersection : List K
  intersection = filter (λ x. has cmp ys x) xs

  -- the elements of the first list that the second lacks
  abbrev pub difference : List K
  difference = filter (λ x. not (has cmp ys x)) xs

  -- the elements of either list that the other lacks
  abbrev pub symmetric_difference : List K
  symmetric_difference = sorted_merge cmp true (filter (λ x. not (has cmp ys x)) xs) (filter (λ y. not (has cmp xs y)) ys)

  -- each element of the first list is in the second, and none is
  abbrev pub IsSubset : Type 0
  IsSubset = (k : K) → has cmp xs k ≡ true → has cmp ys k ≡ true

  abbrev pub AreDisjoint : Type 0
  AreDisjoint = (k : K) → has cmp xs k ≡ true → has cmp ys k ≡ false

  pub record AreAscending : Type 0 where
    pub first : IsAscending cmp xs
    pub second : IsAscending cmp ys

-- where elements of two ascending lists were passed, what an operation gives of them is what it gave before
pub record IsPassed {K : Type 0} (cmp : K → K → Ordering) (op : (K → K → Ordering) → List K → List K → List K) (xs ys old_xs old_ys : List K) : Type 0 where
  pub ascending : AreAscending cmp xs ys
  pub same : op cmp xs ys ≡ op cmp old_xs old_ys
