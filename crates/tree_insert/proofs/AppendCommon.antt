-- The names that most proofs here cite, passed on from one place. Declares nothing.
pub use Rattle.std.proofs.Common.{append_assoc, map, set-set, subst}
pub use Rattle.std.specs.List.{flat_map}
pub use Rattle.tree_insert.specs.Appends.{AppendsEach, AppendsUnder, EndsEdge, IsLastFor, IsOnEdge}
pub use Rattle.tree_node.specs.Ways.{IsOnWay}
pub use Rattle.tree_insert.proofs.Ways.{inserts_at_node, inserts_on_way, node_on_way}
pub use Rattle.tree_leaf.specs.Entries.{found_entries, leaf_entries}
pub use Rattle.tree_model.proofs.LookUps.{put_beyond}
pub use Rattle.tree_model.specs.Pairs.{IsAscending, above, below}
pub use Rattle.tree_node.proofs.Children.{node_there, walk-leaf}
pub use Rattle.tree_node.proofs.Cuts.{all_behind, smaller_front}
pub use Rattle.tree_node.specs.Parts.{Replaces}
pub use Rattle.tree_node.specs.Tree.{AreParted, IsAbove, IsRetiredNode, StandsOrRetired, child_at, is_from}
pub use Rattle.tree_split.proofs.Edges.{last_stands}
