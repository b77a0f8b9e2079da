-- The names of the layers below that most proofs here cite, passed on from one place. Declares nothing.
pub use Rattle.tree_array.specs.Length.{searched}
pub use Rattle.tree_node.specs.Ways.{IsLeafFor, IsOnWay, LeadsTo}
pub use Rattle.tree_model.proofs.Common.{IsTotalOrder, cases_eq, cases_lt, flat_map-append, pair_at}
pub use Rattle.tree_node.proofs.Children.{child_stands, leaf_there, stands_over}
pub use Rattle.tree_node.proofs.Common.{AreParted, ContainsKey, HasChildFor, HasKind, IsAbove, IsOfLevel, IsPart, IsRetired, IsTree, IsUpTo, LeafOf, Stands, StandsOrRetired, TreeArenas, back_at, child_at, child_of, children_of, entries_of, fits, front_at, get, is_from, keyed, leaf_entries, leaves_at, none_here, root_at, times, times-append, times-cons, times-nil, unbounded, uses_some, walk}
pub use Rattle.tree_node.proofs.Levels.{childless, kind_of, node_at, retired_walk, stands_not_retired}
pub use Rattle.tree_node.proofs.Lists.{all_middle, flat_map-flat_map}
pub use Rattle.tree_node.proofs.Walks.{above_next, back_walk_above, children_are, front_walk_below, up_to_next}
pub use Rattle.tree_node.specs.declared.branch.BranchOf.{BranchOf}
pub use Rattle.tree_node.specs.declared.node.NodeOf.TheVariants.{Internal, Leaf}
