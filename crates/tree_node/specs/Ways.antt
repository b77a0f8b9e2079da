-- The way down from a node to the leaf that a key belongs to.
use Rattle.std.specs.Prelude.{◌≡◌, ℕ, zero, suc, ◌-◌, List, ◌∷◌, ◌++◌, IsSome}
use Rattle.tree_leaf.specs.Entries.{entries_of}
use Rattle.tree_model.specs.Pairs.{AllLarger}
use Rattle.tree_node.specs.Arenas.{AllByRecursion, Less, Ordering, TreeArenas, get}
use Rattle.tree_node.specs.Parts.{IsPart}
use Rattle.tree_node.specs.Tree.{HasChildFor, leaves_at}

module _ {K V : Type 0} {LEN : ℕ} (cmp : K → K → Ordering) (key : K) where
  -- so many steps down, each to the child for the key, lead from one number to another
  abbrev pub IsOnWay : ℕ → TreeArenas K V LEN → ℕ → ℕ → Type 0
  IsOnWay zero arenas id target = id ≡ target
  IsOnWay (suc steps) arenas id target = (child : ℕ) × HasChildFor cmp key (get arenas.nodes id) child × IsOnWay steps arenas child target

  -- the way of the key leads from a part to this leaf, under this leaf node
  abbrev pub LeadsTo : ℕ → TreeArenas K V LEN → ℕ → ℕ → ℕ → Type 0
  LeadsTo level arenas id node leaf = IsPart cmp level arenas id × IsOnWay (level - 1) arenas id node × HasChildFor cmp key (get arenas.nodes node) leaf

  -- of a part the leaf that the key belongs to: the keys before it are smaller, and those behind it larger
  pub record IsLeafFor (level : ℕ) (arenas : TreeArenas K V LEN) (id leaf : ℕ) : Type 0 where
    pub here : IsSome (get arenas.leaves leaf)
    pub front : List ℕ
    pub back : List ℕ
    pub parts : leaves_at level arenas.nodes id ≡ front ++ leaf ∷ back
    pub smaller : AllByRecursion (λ pair. cmp pair.0 key ≡ Less) (entries_of arenas.leaves front)
    pub larger : AllLarger cmp key (entries_of arenas.leaves back)
