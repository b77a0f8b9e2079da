-- What a root leaves that gives its place to its only child, again and again.
use Rattle.std.specs.Prelude.{◌≡◌, ◌⊎◌, ℕ, ◌+◌, ◌<◌, Option, None, Some, IsSome, ⊤}
use Rattle.tree_node.specs.declared.node.Root.{Root}
use Rattle.tree_node.specs.Arenas.{Ordering, TreeArenas, get, times, uses}
use Rattle.tree_node.specs.Depth.{HasNoKeyed}
use Rattle.tree_node.specs.Parts.{IsPart}
use Rattle.tree_node.specs.Whole.{IsRetiredRoot, leaves_under, nodes_under, walk_under}
use Rattle.tree_node.specs.Tree.{leaves_at, nodes_at, walk}

module _ {K V : Type 0} {LEN : ℕ} (cmp : K → K → Ordering) where
  -- a root is a node that stands, with a keyed child if it is an internal one, or a retired leaf node
  abbrev pub IsRoot : TreeArenas K V LEN → ℕ → ℕ → Type 0
  IsRoot arenas id level =
      (0 < level) × ((IsPart cmp level arenas id × (1 < level → HasNoKeyed (get arenas.nodes id) → ⊥)) ⊎ IsRetiredRoot arenas id level)

  abbrev pub IsRootIfAny : TreeArenas K V LEN → Option Root → Type 0
  IsRootIfAny arenas None = ⊤
  IsRootIfAny arenas (Some root) = IsRoot arenas root.id root.level

  pub record LowersRoot (level : ℕ) (old new : TreeArenas K V LEN) (root : ℕ) (result : Option Root) : Type 0 where
    pub stands : IsRootIfAny new result
    -- the same leaves stand under it, in turn, with the same pairs
    pub leaves : new.leaves ≡ old.leaves
    pub leaves_under : leaves_under new.nodes result ≡ leaves_at level old.nodes root
    pub pairs : walk_under new result ≡ walk level old root
    -- the other nodes stay, and a number is freed where the part loses it
    pub nodes_kept : (n : ℕ) → IsSome (get old.nodes n) → times n (nodes_at level old.nodes root) ≡ 0 → get new.nodes n ≡ get old.nodes n
    pub nodes_counted : (n : ℕ) → uses new.nodes n + times n (nodes_at level old.nodes root) ≡ uses old.nodes n + times n (nodes_under new.nodes result)
