-- The names that most proofs here cite, passed on from one place. Declares nothing.
pub use Rattle.std.proofs.Common.{Bool, Equal, IfSome, IsSome, Less, List, None, Ok, Option, Ordering, Some, [], ap, append-nil, arith, cond, false, inl, inr, length, length-append, map, refl}
pub use Rattle.std.proofs.Common.{rules, sub-one, suc, sym, true, zero, ℕ, ◌++◌, ◌+◌, ◌-◌, ◌<◌, ◌==◌, ◌∙◌, ◌∷◌, ◌≡◌, ◌≤◌, ◌⊎◌}
pub use Rattle.tree_array.proofs.Common.{all-filter, arrival, least_from, removed, spent_at}
pub use Rattle.tree_array.specs.Removal.{IsRemoval, removal_of}
pub use Rattle.tree_array.specs.declared.answers.RemoveResult.{RemoveResult}
pub use Rattle.tree_array.specs.declared.answers.RemoveResult.TheVariants.{Fail, Retired, Success}
pub use Rattle.tree_clean_up.proofs.Retired.{walk-only_retired, walk-retired}
pub use Rattle.tree_clean_up.specs.CleanUps.{DropsChild, DropsKeyed, DropsUnbounded, HasChildIn, HasOnlyRetired, RetiresIfEmpty}
pub use Rattle.tree_node.specs.Ways.{IsOnWay, LeadsTo}
pub use Rattle.tree_model.proofs.Common.{alike_right, pair_at, tied_back, without}
pub use Rattle.tree_model.proofs.Lengths.{without_few, without_present}
pub use Rattle.tree_node.proofs.Between.{found_between, without_between}
pub use Rattle.tree_node.proofs.ChildChanges.{child_part, new_spare, new_walk, node_keeps, node_replaces, old_spare, old_walk, same_node}
pub use Rattle.tree_node.proofs.Common.{Agrees, AllByRecursion, AllLarger, Arrivals, HasChildFor, IsAbsent, IsChain, IsOfLevel, IsPart, IsRetired, IsRetiredNode}
pub use Rattle.tree_node.proofs.Common.{IsRetiredRoot, IsTotalOrder, IsTree, KeepsBounds, LeafOf, Loses, Replaces, Stands, TreeArenas, all-append, back_at, cases_Bool, child_at, child_of}
pub use Rattle.tree_node.proofs.Common.{children_of, fits, found_free, front_at, get, head_here, is_from, keyed, leaf_there, leaves_at, map-append, nat_tests, no_children, node_is}
pub use Rattle.tree_node.proofs.Common.{nodes_at, one_here, only_child, parted_map, root_at, same_array_refl, same_leaves, same_nodes, same_stands, single_nodes, spare, times, times-cons, times-nil}
pub use Rattle.tree_node.proofs.Common.{unbounded, uses, uses_le_one, walk, walk-children, walk-leaf}
pub use Rattle.tree_node.proofs.Lifts.{node_stays, node_times}
pub use Rattle.tree_node.proofs.NodeKinds.{node_used, outer_level, some_child}
pub use Rattle.tree_node.proofs.Spares.{spare_le, spares-single}
pub use Rattle.tree_node.proofs.Steps.{part_after, replaces_refl, replaces_trans}
pub use Rattle.tree_node.proofs.Walks.{back_walk_above, found_in_child, front_walk_below}
pub use Rattle.tree_node.specs.Routing.{IsChildAt}
pub use Rattle.tree_node.specs.declared.branch.BranchOf.{BranchOf}
pub use Rattle.tree_node.specs.declared.node.NodeOf.{NodeOf}
pub use Rattle.tree_node.specs.declared.node.NodeOf.TheVariants.{Internal, Leaf}
pub use Rattle.tree_node.specs.declared.node.Root.{Root}
pub use Rattle.tree_remove.specs.Lowering.{IsRoot, IsRootIfAny, LowersRoot}
pub use Rattle.tree_remove.specs.Removes.{Leaves, Removes, RemovesUnder, TakesOut, surely}
pub use Rattle.tree_remove.specs.Takes.{DropsEmptied, Emptied, IsEntry, stored_at}
