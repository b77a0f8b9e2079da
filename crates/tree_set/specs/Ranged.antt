-- What a cursor over pairs has still to give, as a list of elements.
use Rattle.std.specs.Prelude.{List}
use Rattle.std.specs.declared.cmp.Ordering.{Ordering}
use Rattle.tree_model.specs.declared.way.Way.TheVariants.{On, Back}
use Rattle.tree_model.specs.Cursor.{Cursor}
use Rattle.tree_model.specs.Rest.{HasBegun, rest}
use Rattle.tree_set.specs.Sets.{keys_of}

module _ {K V : Type 0} (cmp : K → K → Ordering) where
  -- the keys of the pairs between its ends and within its bounds
  abbrev pub left_of : Cursor K V → List K
  left_of c = keys_of (rest cmp On c)

  -- each end stands within the bound at which it began
  pub record HasBegunBoth (c : Cursor K V) : Type 0 where
    pub forward : HasBegun cmp On c
    pub backward : HasBegun cmp Back c
