-- The arenas of the leaves and nodes of trees, and the words of the layers below that most definitions here and above cite.
use Rattle.std.specs.Prelude.{ℕ}
use Rattle.tree_leaf.specs.declared.arena.SlotsOf.{SlotsOf}
pub use Rattle.slab.specs.Slab.{Slab, get}
pub use Rattle.std.specs.List.{AllByRecursion}
pub use Rattle.std.specs.declared.cmp.Ordering.{Ordering}
pub use Rattle.std.specs.declared.cmp.Ordering.TheVariants.{Less}
pub use Rattle.tree_array.specs.Arrivals.{Arrivals, arrival, boundary, free, in_order, least_from, removed, stored}
pub use Rattle.tree_array.specs.Length.{limit}
pub use Rattle.tree_leaf.specs.Chain.{IsChain, SameArray}
pub use Rattle.tree_leaf.specs.Counting.{times, uses}
pub use Rattle.tree_leaf.specs.Entries.{leaf_entries}
pub use Rattle.tree_leaf.specs.declared.leaf.LeafOf.{LeafOf}
pub use Rattle.tree_node.specs.declared.node.NodeOf.{NodeOf}
pub use Rattle.tree_node.specs.declared.node.NodeOf.TheVariants.{Internal, Leaf}

abbrev pub TreeArenas : Type 0 → Type 0 → ℕ → Type 0
TreeArenas K V LEN = SlotsOf K V (NodeOf K LEN) LEN
