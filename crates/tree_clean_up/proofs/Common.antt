-- The names that most proofs here cite, passed on from one place. Declares nothing.
pub use Rattle.std.proofs.Common.{IsSome, List, None, Option, Ordering, Some, [], ap, append_assoc, arith, cond, false, flat_map, inl, inr, is_some, length, length-append, map, refl, rules, suc, sym}
pub use Rattle.std.proofs.Common.{true, zero, ℕ, ◌++◌, ◌+◌, ◌==◌, ◌∙◌, ◌∷◌, ◌≡◌, ◌≤◌}
pub use Rattle.tree_array.proofs.Common.{arrival}
pub use Rattle.tree_clean_up.specs.CleanUps.{DropsUnbounded, FreesIn, HasChildIn, HasOnlyRetired, IsOnlyRetired, Retires, RetiresIfEmpty, TakesKeyed}
pub use Rattle.tree_leaf.proofs.Chains.{linked_kept, same_array_used, same_array_uses}
pub use Rattle.tree_model.proofs.Common.{tied_itself, without}
pub use Rattle.tree_node.proofs.Common.{AllByRecursion, AreParted, Arrivals, ContainsKey, IsChain, IsPart, IsRetired, IsRetiredNode, IsTotalOrder, KeepsBounds, LeafOf, Loses, Replaces, Slab, Stands}
pub use Rattle.tree_node.proofs.Common.{TreeArenas, Updates-with_value, all_map, cases_eq, children_of, fits, get, in_turn, keyed, leaves_at, leaves_of, map-append, nat_tests, no_children, node_is, nodes_at, nodes_of, none_here}
pub use Rattle.tree_node.proofs.Common.{one_here, same_array_refl, single_leaves, single_nodes, times, times-append, times-cons, times-nil, unbounded, uses, uses_le_one, uses_none, uses_same}
pub use Rattle.tree_node.proofs.Common.{uses_some, walk, walk-children}
pub use Rattle.tree_node.proofs.Lifts.{leaves_once_in}
pub use Rattle.tree_node.specs.declared.node.NodeOf.{NodeOf}
