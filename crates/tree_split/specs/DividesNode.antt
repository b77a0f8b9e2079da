-- What a node leaves that is divided.
use Rattle.std.specs.Prelude.{◌≡◌, ℕ, None, Some}
use Rattle.tree_node.specs.Arenas.{TreeArenas, get}
use Rattle.tree_node.specs.declared.node.NodeOf.{NodeOf}
use Rattle.tree_node.specs.Changes.{CutsNode}

-- The children of x below the one at the place have moved to a new node, under y, whose unbounded child that one is. Nothing else has changed.
pub record DividesNode {K V : Type 0} {LEN : ℕ} (old new : TreeArenas K V LEN) (x place : ℕ) (separator : K) (y : ℕ) : Type 0 where
  pub node : NodeOf K LEN
  pub low : NodeOf K LEN
  pub high : NodeOf K LEN
  pub was : get old.nodes x ≡ Some node
  pub was_free : get old.nodes y ≡ None
  pub cuts : CutsNode node place high low separator
  pub low_here : get new.nodes y ≡ Some low
  pub high_here : get new.nodes x ≡ Some high
  pub others : (n : ℕ) → (n ≡ x → ⊥) → (n ≡ y → ⊥) → get new.nodes n ≡ get old.nodes n
  pub leaves : (n : ℕ) → get new.leaves n ≡ get old.leaves n
