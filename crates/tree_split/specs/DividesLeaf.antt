-- What a leaf leaves that is divided.
use Rattle.std.specs.Prelude.{◌≡◌, ℕ, [], ◌∷◌, None, Some, take, drop}
use Rattle.tree_node.specs.Arenas.{LeafOf, TreeArenas, get, in_order}
use Rattle.tree_node.specs.Parts.{Replaces}

-- So many first entries of the leaf x have moved to a new leaf, under y, linked before it. The entries of both arrived again. Nothing else has changed.
pub record DividesLeaf {K V : Type 0} {LEN : ℕ} (old new : TreeArenas K V LEN) (x count y : ℕ) : Type 0 where
  pub leaf : LeafOf K V LEN
  pub low : LeafOf K V LEN
  pub high : LeafOf K V LEN
  pub was : get old.leaves x ≡ Some leaf
  pub was_free : get old.leaves y ≡ None
  pub low_here : get new.leaves y ≡ Some low
  pub high_here : get new.leaves x ≡ Some high
  pub low_is : low.array ≡ in_order (take count leaf.array.entries)
  pub high_is : high.array ≡ in_order (drop count leaf.array.entries)
  pub replaces : Replaces 0 old new (x ∷ []) (y ∷ (x ∷ []))
  pub nodes : (n : ℕ) → get new.nodes n ≡ get old.nodes n
