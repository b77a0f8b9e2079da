-- The level that is found serves in place of the one that a contract speaks of: they differ for a retired node alone, which has nothing under it.
use Rattle.std.specs.Prelude.{◌≡◌, ℕ, ◌<◌, ◌≤◌, None}
use Rattle.std.specs.declared.cmp.Ordering.{Ordering}
use Rattle.tree_node.specs.Arenas.{TreeArenas}
use Rattle.tree_node.specs.Tree.{IsRetired, Stands, StandsOrRetired, leaves_at}

pub record IsFound {K V : Type 0} {LEN : ℕ} (cmp : K → K → Ordering) (arenas : TreeArenas K V LEN) (id level found : ℕ) : Type 0 where
  pub above : 0 < level
  pub inner : 0 < found
  pub le : found ≤ level
  pub up : Stands cmp level arenas None id None → found ≡ level
  pub one : IsRetired level arenas id → found ≡ 1
  pub stands : StandsOrRetired cmp found arenas id
  pub leaves : leaves_at found arenas.nodes id ≡ leaves_at level arenas.nodes id
