-- Where no room can be made on the way of a key.
use Rattle.tree_insert.proofs.Common.{HasChildFor, HasToDivide, IsCrowded, Ordering, TreeArenas, Unchanged, arith, get, held, inl, inr, limit, room, sub-one, suc, sym, unchanged_held, unchanged_room}
use Rattle.tree_insert.proofs.Common.{zero, ℕ, ◌-◌, ◌<◌, ◌∙◌, ◌≡◌}

module _ {K V : Type 0} {LEN : ℕ} (cmp : K → K → Ordering) where
  -- the array right under the number has none
  pub crowded_room : (level : ℕ) (a : TreeArenas K V LEN) (id : ℕ) (key : K) → IsCrowded cmp level a id key → room level a id ≡ 0
  crowded_room zero a id key crowded = crowded
  crowded_room (suc level) a id key crowded = crowded.0

  -- where each child for the key has room, the key's way isn't crowded
  pub not_crowded : (level : ℕ) → 0 < level → (a : TreeArenas K V LEN) (id : ℕ) (key : K)
      → ((child : ℕ) → HasChildFor cmp key (get a.nodes id) child → 0 < room (level - 1) a child) → IsCrowded cmp level a id key → ⊥
  not_crowded zero deep a id key some crowded = omega (arith, deep)
  not_crowded (suc level) deep a id key some crowded =
      let more : 0 < room level a crowded.1 = rw sub-one at (some crowded.1 crowded.2) in
      omega (arith, more, crowded_room level a crowded.1 key crowded.4)

  -- nor can it be made above a child where it can't be made
  pub crowded_above : (level : ℕ) → 0 < level → (a : TreeArenas K V LEN) (id child : ℕ) (key : K) → room level a id ≡ 0 → HasChildFor cmp key (get a.nodes id) child
      → limit LEN < held (level - 1) a child → IsCrowded cmp (level - 1) a child key → IsCrowded cmp level a id key
  crowded_above zero deep a id child key none which many crowded = absurd (omega (arith, deep))
  crowded_above (suc level) deep a id child key none which many crowded = (none, child, which, rw sub-one at many, rw sub-one at crowded)

  -- the child for the key is full, and has too many to be built anew
  pub child_divides : (level : ℕ) → 0 < level → (a : TreeArenas K V LEN) (id child : ℕ) (key : K) → HasChildFor cmp key (get a.nodes id) child → room (level - 1) a child ≡ 0
      → limit LEN < held (level - 1) a child → HasToDivide cmp level a id key
  child_divides zero deep a id child key which none many = absurd (omega (arith, deep))
  child_divides (suc level) deep a id child key which none many = (child, which, inl (rw sub-one at none, rw sub-one at many))

  -- An insert that was tried again meets a full child below only where there was one before: the child for the key has room by now.
  pub divides_before : (level : ℕ) → 0 < level → (old made : TreeArenas K V LEN) (id child : ℕ) (key : K) → HasChildFor cmp key (get old.nodes id) child → IsCrowded cmp (level - 1) old child key
      → ((c : ℕ) → HasChildFor cmp key (get made.nodes id) c → 0 < room (level - 1) made c) → HasToDivide cmp level made id key → HasToDivide cmp level old id key
  divides_before zero deep old made id child key which crowded some divides = absurd (omega (arith, deep))
  divides_before (suc zero) deep old made id child key which crowded some divides = elim divides.2 [
    | inl full ↦ absurd (let more : 0 < room zero made divides.0 = some divides.0 divides.1 in omega (arith, more, full.0))
    | inr below ↦ absurd below
  ]
  divides_before (suc (suc level)) deep old made id child key which crowded some divides =
      let full : IsCrowded cmp (suc level) old child key = rw sub-one at crowded in
      (child, which, inr (full.1, full.2, inl (crowded_room level old full.1 key full.4, full.3)))

  -- where nothing has changed since, it was so before
  module _ (old new : TreeArenas K V LEN) (same : Unchanged old new) where
    pub crowded_still : (level : ℕ) (id : ℕ) (key : K) → IsCrowded cmp level new id key → IsCrowded cmp level old id key
    crowded_still zero id key crowded = sym (unchanged_room zero old new same id) ∙ crowded
    crowded_still (suc level) id key crowded = (
      sym (unchanged_room (suc level) old new same id) ∙ crowded.0,
      crowded.1,
      rw (same.nodes id) at crowded.2,
      rw (unchanged_held level old new same crowded.1) at crowded.3,
      crowded_still level crowded.1 key crowded.4,
    )

    pub divides_still : (level : ℕ) (id : ℕ) (key : K) → HasToDivide cmp level new id key → HasToDivide cmp level old id key
    divides_still zero id key divides = divides
    divides_still (suc level) id key divides = (
      divides.0,
      rw (same.nodes id) at divides.1,
      elim divides.2 [
        | inl full ↦ inl (sym (unchanged_room level old new same divides.0) ∙ full.0, rw (unchanged_held level old new same divides.0) at full.1)
        | inr below ↦ inr (divides_still level divides.0 key below)
      ],
    )
