-- The number of a leaf or of a node, and parts that are freed.
use Rattle.std.specs.Prelude.{◌≡◌, ℕ, zero, suc, ◌≤◌, List, [], ◌∷◌, ◌++◌, None, ⊤}
use Rattle.std.specs.declared.cmp.Ordering.{Ordering}
use Rattle.tree_clean_up.specs.CleanUps.{FreesIn}
use Rattle.tree_leaf.specs.Counting.{times, uses}
use Rattle.tree_node.specs.Arenas.{TreeArenas}
use Rattle.tree_node.specs.Tree.{Stands, leaves_at, nodes_at}
use Rattle.tree_cut.specs.declared.dropping.End.{End}
use Rattle.tree_cut.specs.declared.dropping.End.TheVariants.{First, Last}
use Rattle.tree_cut.specs.declared.parts.Part.{Part}
use Rattle.tree_cut.specs.declared.parts.Part.TheVariants.{Leaf, Node}

abbrev pub part_id : Part → ℕ
part_id (Leaf id) = id
part_id (Node id) = id

-- a leaf stands at level 0, and a node above it
abbrev pub IsAt : ℕ → Part → Type 0
IsAt zero (Leaf id) = ⊤
IsAt zero (Node id) = ⊥
IsAt (suc level) (Leaf id) = ⊥
IsAt (suc level) (Node id) = ⊤

-- the number at an end of a list
abbrev pub IsEnd : End → List ℕ → ℕ → Type 0
IsEnd First ids id = (rest : List ℕ) × (ids ≡ id ∷ rest)
IsEnd Last ids id = (front : List ℕ) × (ids ≡ front ++ id ∷ [])

module _ {K V : Type 0} {LEN : ℕ} where
  -- a part stands under the number, and reaches each number once at most
  pub record StandsOnce (cmp : K → K → Ordering) (level : ℕ) (arenas : TreeArenas K V LEN) (id : ℕ) : Type 0 where
    pub stands : Stands cmp level arenas None id None
    pub nodes_once : (n : ℕ) → times n (nodes_at level arenas.nodes id) ≤ uses arenas.nodes n
    pub leaves_once : (n : ℕ) → times n (leaves_at level arenas.nodes id) ≤ uses arenas.leaves n

  -- exactly the numbers reached from this one are free now
  pub record Frees (level : ℕ) (old new : TreeArenas K V LEN) (id : ℕ) : Type 0 where
    pub nodes : FreesIn old.nodes new.nodes (nodes_at level old.nodes id)
    pub leaves : FreesIn old.leaves new.leaves (leaves_at level old.nodes id)
