-- How a tree grows at its root: a full root comes under a new one.
use Rattle.std.specs.Prelude.{◌≡◌, ℕ, suc, ◌+◌, ◌<◌, List, ◌++◌, Option, None, IsSome}
use Rattle.tree_node.specs.Arenas.{IsChain, Ordering, TreeArenas, get, times, uses}
use Rattle.tree_node.specs.Shape.{room, found_keyed}
use Rattle.tree_node.specs.Tree.{HasChildFor, Stands, leaves_at, nodes_at, walk}
use Rattle.tree_split.specs.Packed.{IsPacked}

-- The part under the root stands under a new root, one level higher. The new root and each key's child have room, so that the next insert asks for no split.
pub record RaisesRoot {K V : Type 0} {LEN : ℕ} (cmp : K → K → Ordering) (depth : ℕ) (old new : TreeArenas K V LEN) (root id : ℕ) : Type 0 where
  pub pairs : walk (suc depth) new id ≡ walk depth old root
  pub stands : Stands cmp (suc depth) new None id None
  -- each node outside the part stays, and each leaf
  pub nodes_kept : (n : ℕ) → IsSome (get old.nodes n) → times n (nodes_at depth old.nodes root) ≡ 0 → get new.nodes n ≡ get old.nodes n
  pub leaves_kept : (n : ℕ) → get new.leaves n ≡ get old.leaves n
  -- a number is taken where the part gains it
  pub nodes_counted : (n : ℕ) → uses new.nodes n + times n (nodes_at depth old.nodes root) ≡ uses old.nodes n + times n (nodes_at (suc depth) new.nodes id)
  pub leaves_counted : (n : ℕ) → uses new.leaves n + times n (leaves_at depth old.nodes root) ≡ uses old.leaves n + times n (leaves_at (suc depth) new.nodes id)
  pub chained : (front back : List ℕ) → IsChain old.leaves (front ++ (leaves_at depth old.nodes root ++ back)) → IsChain new.leaves (front ++ (leaves_at (suc depth) new.nodes id ++ back))
  pub roomy : 0 < room (suc depth) new id
  pub routed : (key : K) (child : ℕ) → HasChildFor cmp key (get new.nodes id) child → 0 < room depth new child
  -- a packed part that was full is so under the new root, which has a keyed child
  pub packed : (beyond : Option K) → room depth old root ≡ 0 → IsPacked cmp beyond depth old root → IsPacked cmp beyond (suc depth) new id × (0 < found_keyed (get new.nodes id))
