-- The names that most proofs here and above cite, passed on from one place. Declares nothing.
pub use Rattle.slab.specs.Slab.{Slab, get}
pub use Rattle.std.proofs.Common.{IsSome, List, None, Option, Some, [], ap, append-nil, arith, drop, false, flat_map, get_or, is_some, length, length-append, option_map, refl, reverse, rules}
pub use Rattle.std.proofs.Common.{slice_get, suc, sum_by, sym, take, take-suc, take_all, true, zero, ℕ, ◌++◌, ◌+◌, ◌-◌, ◌<◌, ◌==◌, ◌∙◌, ◌∷◌, ◌≡◌, ◌≤◌}
pub use Rattle.std.proofs.lemmas.List.{drop_more, length-map, length-reverse}
pub use Rattle.std.proofs.lemmas.List.Sums.{count_by-le-length, sum_by-cons}
pub use Rattle.std.proofs.lemmas.Option.{get_or_from_slice_get, slice_get-get_or, slice_get_past, slice_get_within}
pub use Rattle.std.proofs.lemmas.Result.{IfOk-weaker}
pub use Rattle.tree_array.proofs.Common.{Walk, arrival}
pub use Rattle.tree_array.specs.Walk.{StepsOver, next_place, place_ahead, places_behind, places_left}
pub use Rattle.tree_leaf.specs.Rest.{AreLeft, AreOnTheWay, HasTaken, StandsIn, Takes, left_of, whole_way}
pub use Rattle.tree_leaf.specs.Walks.{IsStand, Jumps, LeafWalk, Steps, first_of, first_on, here, jumped, last_of, left_in_leaf, standing, stood_on}
pub use Rattle.tree_leaf.specs.Ways.{ahead, beside, beyond, landing, leaves_on, seen, seen_at}
pub use Rattle.tree_leaf.specs.declared.stand.Beside.{Beside}
pub use Rattle.tree_leaf.proofs.Chains.{chain_used, neighbours}
pub use Rattle.tree_leaf.proofs.Pigeonhole.{once_fits}
pub use Rattle.tree_leaf.specs.Chain.{IsChain, first_or, last_or}
pub use Rattle.tree_leaf.specs.Entries.{entries_of, leaf_entries}
pub use Rattle.tree_leaf.specs.declared.leaf.LeafOf.{LeafOf}
pub use Rattle.tree_model.proofs.Common.{AllByRecursion, along, drop_all, flat_map-append, nat_tests, reverse-append, reverse-reverse, reverse_onto}
pub use Rattle.tree_model.specs.declared.way.Way.{Way}
pub use Rattle.tree_model.specs.declared.way.Way.TheVariants.{Back, On}
pub use mathlib.Core.List.{reverse_aux}
