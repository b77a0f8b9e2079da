-- The first and the last leaf of a part, and of a part that is dropped the leaves beside it.
use Rattle.tree_cut.proofs.Common.{◌≡◌, ℕ, List, [], ◌∷◌, ◌++◌, Option, Some, None, IsSome, refl, append_assoc, arith, flat_map, Ordering, append-nil, AllByRecursion, flat_map-append, Slab, get, LeafOf, IsChain, TreeArenas, IsPart, part_dropped, Replaces, leaves_at, leaves_of, walk, NodeOf, Splices, End, First, Last, Frees, IsEnd, StandsOnce, chain_used, next_used, prev_used, same_array_uses, Agrees, same_stands, same_walk, leaves_once_in, all_middle}

-- an end of the children's leaves is that of the leaves of the child at that end
pub end_below : {K : Type 0} {LEN : ℕ} (nodes : Slab (NodeOf K LEN)) (level : ℕ) (end : End) (ids : List ℕ) (x leaf : ℕ) → IsEnd end ids x
    → IsEnd end (leaves_at level nodes x) leaf → IsEnd end (leaves_of level nodes ids) leaf
end_below nodes level First ids x leaf at below = (below.0 ++ flat_map (leaves_at level nodes) at.0, rw (at.1, below.1) refl)
end_below nodes level Last ids x leaf at below = (
  flat_map (leaves_at level nodes) at.0 ++ below.0,
  rw (at.1, flat_map-append (leaves_at level nodes) at.0, append-nil (leaves_at level nodes x), below.1, append_assoc (flat_map (leaves_at level nodes) at.0)) refl,
)

-- what holds of all children holds of one at an end
pub at_end : (P : ℕ → Type 0) (end : End) (ids : List ℕ) (x : ℕ) → IsEnd end ids x → AllByRecursion P ids → P x
at_end P First ids x at each = (rw at.1 at each).0
at_end P Last ids x at each = all_middle P at.0 x [] (rw at.1 at each)

pub end_of_leaf : (end : End) (id : ℕ) → IsEnd end (id ∷ []) id
end_of_leaf end id = grind arith

module _ {K V : Type 0} {LEN : ℕ} {cmp : K → K → Ordering} {level : ℕ} {old : TreeArenas K V LEN} {id first last : ℕ} (part : IsPart cmp level old id)
    (at_first : IsEnd First (leaves_at level old.nodes id) first) (at_last : IsEnd Last (leaves_at level old.nodes id) last) where
  -- the leaves of the part, by its first one and by its last one
  from_first : IsChain old.leaves (part.front ++ first ∷ (at_first.0 ++ part.back))
  from_first = rw at_first.1 at part.chain

  to_last : IsChain old.leaves ((part.front ++ at_last.0) ++ last ∷ part.back)
  to_last = grind (arith, at_last.1, append_assoc, part.chain)

  pub first_used : IsSome (get old.leaves first)
  first_used = chain_used old.leaves part.front first (at_first.0 ++ part.back) from_first

  pub last_used : IsSome (get old.leaves last)
  last_used = chain_used old.leaves (part.front ++ at_last.0) last part.back to_last

  -- and the leaves beside them
  module _ {leaf_first leaf_last : LeafOf K V LEN} {left right : Option ℕ} (first_here : get old.leaves first ≡ Some leaf_first)
      (last_here : get old.leaves last ≡ Some leaf_last) (left_is : left ≡ leaf_first.prev) (right_is : right ≡ leaf_last.next) where
    pub beside_used : ((n : ℕ) → left ≡ Some n → IsSome (get old.leaves n)) × ((n : ℕ) → right ≡ Some n → IsSome (get old.leaves n))
    beside_used = rw (left_is, right_is) (
      prev_used old.leaves part.front first (at_first.0 ++ part.back) from_first leaf_first first_here,
      next_used old.leaves (part.front ++ at_last.0) last part.back to_last leaf_last last_here,
    )

    module _ {mid : TreeArenas K V LEN} (splices : Splices old mid left right) where
      spliced : Splices old mid leaf_first.prev leaf_last.next
      spliced = rw (left_is, right_is) at splices

      agrees : Agrees level old mid id
      agrees = record { nodes = λ m inside. rw spliced.nodes refl; leaves = λ m inside. spliced.kept m }

      pub spliced_walk : walk level mid id ≡ walk level old id
      spliced_walk = same_walk level old mid id agrees

      pub spliced_once : StandsOnce cmp level mid id
      spliced_once =
          let s = same_stands cmp level old mid id agrees None None part.stands in
          grind (arith, s, spliced.nodes, part.nodes_once, same_array_uses, spliced.kept, leaves_once_in level old id part)

      -- the part is dropped
      pub dropped : {new : TreeArenas K V LEN} → Frees level mid new id → Replaces level old new (id ∷ []) []
      dropped frees =
          part_dropped level id first last at_first.0 at_last.0 at_first.1 at_last.1 first_here last_here spliced
          (rw (← spliced.nodes) frees.nodes) (rw (← spliced.nodes) frees.leaves) part.front part.back part.chain
