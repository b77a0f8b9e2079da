-- The last leaf of a tree, and what an append answers.
use Rattle.std.specs.Prelude.{ℕ, Option, None, Some, Result, Ok, Err}
use Rattle.tree_insert.specs.Appends.{IsLastLeaf}
use Rattle.tree_array.specs.declared.answers.StoreResult.{StoreResult}
use Rattle.tree_array.specs.declared.answers.StoreResult.TheVariants.{New}
use Rattle.tree_node.specs.declared.node.Root.{Root}
use Rattle.tree_node.specs.Arenas.{TreeArenas}
use Rattle.tree_root.specs.declared.tree.Tree.{Tree}

-- an append's answer as that of a store
abbrev pub appended : {K V L : Type 0} → Result L (K × V) → Result (StoreResult K V) (K × V)
appended (Ok last) = Ok New
appended (Err pair) = Err pair

module _ {K V : Type 0} {LEN : ℕ} where
  -- this is the last leaf under the root, and it has a pair
  abbrev pub IsLastUnder : TreeArenas K V LEN → Option Root → ℕ → Type 0
  IsLastUnder arenas None leaf = ⊥
  IsLastUnder arenas (Some root) leaf = IsLastLeaf root.level arenas root.id leaf

  abbrev pub IsLast : Tree K V LEN → ℕ → Type 0
  IsLast tree leaf = IsLastUnder tree.arenas tree.root leaf
