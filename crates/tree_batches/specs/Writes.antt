-- Pairs that are stored one after another.
use Rattle.std.specs.Prelude.{◌≡◌, ◌≤◌, ◌<◌, true, List, ◌++◌, length}
use Rattle.std.specs.declared.cmp.Ordering.{Ordering}
use Rattle.tree_index.specs.Collects.{puts}
use Rattle.tree_index.specs.Index.{Index}
use Rattle.tree_model.specs.Pairs.{IsAscending}

module _ {K V : Type 0} (cmp : K → K → Ordering) (old : Index K V) (pairs : List (K × V)) where
  -- All of these pairs were put, in order.
  pub record StoresAll (new : Index K V) : Type 0 where
    pub put : new.pairs ≡ puts cmp old.pairs pairs
    -- pairs that come in ascending order leave a packed index packed
    pub packed : IsAscending cmp (old.pairs ++ pairs) → old.packed ≡ true → new.packed ≡ true

  -- The first of these pairs were put, in order, and the others are left.
  pub record StoresFirst (left new : List (K × V)) : Type 0 where
    pub stored : List (K × V)
    pub parts : pairs ≡ stored ++ left
    pub put : new ≡ puts cmp old.pairs stored

  -- An allocation failed for the first pair that is left, which comes back with those behind it. As many as were sure to be stored came before it.
  pub record StopsAt (left new : List (K × V)) : Type 0 where
    pub first : StoresFirst left new
    pub some : 0 < length left
    pub spare : old.spare ≤ length first.stored
