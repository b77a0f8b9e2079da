-- A retired root gets a leaf again.
use Rattle.std.specs.Prelude.{◌≡◌, ◌≢◌, ℕ, [], ◌∷◌, None}
use Rattle.tree_node.specs.Arenas.{IsChain, Ordering, TreeArenas, get}
use Rattle.tree_node.specs.Shape.{spare}
use Rattle.tree_node.specs.Tree.{Stands, leaves_at, walk}

-- A leaf node stands under the number, over an empty leaf that nothing else is linked to.
pub record Replants {K V : Type 0} {LEN : ℕ} (cmp : K → K → Ordering) (old new : TreeArenas K V LEN) (root : ℕ) : Type 0 where
  pub pairs : walk 1 new root ≡ []
  pub stands : Stands cmp 1 new None root None
  pub leaf : ℕ
  pub was_free : get old.leaves leaf ≡ None
  pub leaves : leaves_at 1 new.nodes root ≡ leaf ∷ []
  pub chain : IsChain new.leaves (leaf ∷ [])
  -- no slot of the leaf is used, so that the next insert is neither refused nor asks for a split
  pub unused : spare 1 new root ≡ LEN
  -- what stands under every other number stays
  pub nodes_kept : (n : ℕ) → n ≢ root → get new.nodes n ≡ get old.nodes n
  pub leaves_kept : (n : ℕ) → n ≢ leaf → get new.leaves n ≡ get old.leaves n
