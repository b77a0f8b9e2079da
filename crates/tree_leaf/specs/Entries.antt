-- What leaves hold.
use Rattle.std.specs.Prelude.{ℕ, List, [], Option, None, Some}
use Rattle.std.specs.List.{flat_map}
use Rattle.slab.specs.Slab.{Slab, get}
use Rattle.tree_leaf.specs.declared.leaf.LeafOf.{LeafOf}

module _ {K V : Type 0} {LEN : ℕ} where
  abbrev pub found_entries : Option (LeafOf K V LEN) → List (K × V)
  found_entries None = []
  found_entries (Some leaf) = leaf.array.entries

  -- the entries of the leaf under a number
  abbrev pub leaf_entries : Slab (LeafOf K V LEN) → ℕ → List (K × V)
  leaf_entries leaves id = found_entries (get leaves id)

  -- the entries of these leaves, one leaf after another
  abbrev pub entries_of : Slab (LeafOf K V LEN) → List ℕ → List (K × V)
  entries_of leaves ids = flat_map (leaf_entries leaves) ids
