-- A batch of keys on its way down: each key has come to a node of one level.
use Rattle.std.proofs.Common.{◌≡◌, ◌≢◌, ◌⊎◌, ℕ, suc, ◌+◌, ◌-◌, ◌<◌, ◌≤◌, List, length, get_or, set, Option, None, Some, refl, inl, inr, arith, Ordering}
use Rattle.std.proofs.lemmas.Bool.{cases_eq}
use Rattle.std.proofs.lemmas.List.{get_or_read, get_or-set_same, get_or-set_other}
use Rattle.tree_batches.specs.Batches.{LeafUnder, HaveLeaves, child_or_itself, leaf_of}
use Rattle.tree_node.proofs.Common.{IsRetired, IsTop, IsTotalOrder, Stands, StandsOrRetired, TreeArenas, child_of, get, root_at}
use Rattle.tree_node.specs.declared.branch.BranchOf.{BranchOf}
use Rattle.tree_node.specs.declared.node.NodeOf.{NodeOf}
use Rattle.tree_node.specs.declared.node.NodeOf.TheVariants.{Internal, Leaf}
use Rattle.tree_node.proofs.Found.{leaf_found}
use Rattle.tree_node.proofs.Levels.{stands_not_retired}
use Rattle.tree_node.proofs.Ways.{IsDown, goes_down, is_there, starts, stops, stops_at}

module _ {Q K V : Type 0} {LEN : ℕ} (of : Q → K) (cmp : K → K → Ordering) (a : TreeArenas K V LEN) (keys : List Q) (level id : ℕ) where
  -- the keys at these places have come down to the nodes at the same places, of this level
  abbrev pub AreDown : ℕ → ℕ → ℕ → List ℕ → Type 0
  AreDown above from to at = (k : ℕ) (d : Q) → from ≤ k → k < to → IsDown cmp a (of (get_or keys k d)) level id above (get_or at k 0)

-- after the last turn one step is left
pub one_left : (level turn : ℕ) → turn ≤ level → level ≤ turn → suc level - turn ≡ 1
one_left level turn low high = omega (arith, low, high)

-- what a look-up asks of the root
pub asked : {K V : Type 0} {LEN : ℕ} (cmp : K → K → Ordering) (a : TreeArenas K V LEN) (level id : ℕ) → IsTop cmp a (Some (root_at id level)) → StandsOrRetired cmp level a id
asked cmp a level id (inner, inl stands) = inl stands
asked cmp a level id (inner, inr retired) = inr (rw retired.0 retired.1)

-- above the leaf nodes it isn't retired
pub stands_above : {K V : Type 0} {LEN : ℕ} (cmp : K → K → Ordering) (a : TreeArenas K V LEN) (level id : ℕ) → 1 < level → IsTop cmp a (Some (root_at id level)) → Stands cmp level a None id None
stands_above cmp a level id above (inner, inl stands) = stands
stands_above cmp a level id above (inner, inr retired) = absurd (omega (arith, above, retired.0))

module _ {K V : Type 0} {LEN : ℕ} {cmp : K → K → Ordering} (o : IsTotalOrder cmp) (a : TreeArenas K V LEN) (key : K) (level id : ℕ) where
  -- one step down in a tree that isn't empty
  pub steps : (next at : ℕ) → 0 < level → Stands cmp level a None id None → IsDown cmp a key level id (suc (suc next)) at
      → IsDown cmp a key level id (suc next) (child_or_itself cmp key a.nodes at)
  steps next at inner stands down = by_node (get a.nodes at) refl
    where
      never : IsRetired level a id → ⊥
      never retired = stands_not_retired cmp a id level inner stands retired

      by_child : (node : BranchOf K ℕ LEN) → get a.nodes at ≡ Some (Internal node) → (found : Option ℕ) → child_of cmp key node.children.entries node.unbounded_child ≡ found
          → IsDown cmp a key level id (suc next) (child_or_itself cmp key a.nodes at)
      by_child node here None none = absurd (never (stops o down (Internal node) here none))
      by_child node here (Some child) chosen = rw (here, chosen) (goes_down o down node child chosen here (suc next) refl)

      by_node : (found : Option (NodeOf K LEN)) → get a.nodes at ≡ found → IsDown cmp a key level id (suc next) (child_or_itself cmp key a.nodes at)
      by_node None none = absurd (let there = rw none at (is_there o down) in cc there)
      by_node (Some (Leaf node)) here = absurd (never (stops_at o down (Leaf node) here (λ kind. kind)))
      by_node (Some (Internal node)) here = by_child node here _ refl

  -- the last step, to a leaf
  pub ends : (at : ℕ) → 0 < level → IsDown cmp a key level id 1 at → LeafUnder cmp a (Some (root_at id level)) key (leaf_of cmp key (get a.nodes at))
  ends at inner down = by_node (get a.nodes at) refl
    where
      by_node : (found : Option (NodeOf K LEN)) → get a.nodes at ≡ found → LeafUnder cmp a (Some (root_at id level)) key (leaf_of cmp key (get a.nodes at))
      by_node None none = absurd (let there = rw none at (is_there o down) in cc there)
      by_node (Some (Internal node)) here = rw here (stops_at o down (Internal node) here (λ kind. kind))
      by_node (Some (Leaf node)) here = rw here (leaf_found o a key level id 1 at inner down node here _ refl)

module _ {Q K V : Type 0} {LEN : ℕ} {cmp : K → K → Ordering} (o : IsTotalOrder cmp) (of : Q → K) (a : TreeArenas K V LEN) (keys : List Q) (level id : ℕ) where
  -- all keys begin at the root
  pub begins : 0 < level → StandsOrRetired cmp level a id → (at : List ℕ) → ((k : ℕ) → k < length keys → get_or at k 0 ≡ id) → AreDown of cmp a keys level id level 0 (length keys) at
  begins inner stands at same k d low high = rw (same k high) (starts cmp a (of (get_or keys k d)) level id inner stands)

  module _ (place : ℕ) (key : Q) (is_key : key ≡ get_or keys place key) (within : place < length keys) (at : List ℕ) (held : place < length at) where
    -- the key at a place has taken its step, and those behind it not yet
    pub one_down : (next : ℕ) → 0 < level → Stands cmp level a None id None → AreDown of cmp a keys level id (suc next) 0 place at → AreDown of cmp a keys level id (suc (suc next)) place (length keys) at
        → AreDown of cmp a keys level id (suc next) 0 (place + 1) (set at place (child_or_itself cmp (of key) a.nodes (get_or at place 0)))
    one_down next inner stands done left k d low high = by_place (cases_eq k place)
      where
        x : ℕ
        x = child_or_itself cmp (of key) a.nodes (get_or at place 0)

        by_place : (k ≡ place) ⊎ (k ≢ place) → IsDown cmp a (of (get_or keys k d)) level id (suc next) (get_or (set at place x) k 0)
        by_place (inl same) =
            let read : key ≡ get_or keys place d = get_or_read keys place key within is_key d in
            rw (same, get_or-set_same at place x 0 held, ← read)
            (steps o a (of key) level id next (get_or at place 0) inner stands (rw (← read) at (left place d (omega arith) within)))
        by_place (inr other) = rw (get_or-set_other at place k x 0 other) (done k d low (omega (arith, high, other)))

    pub others_left : (above x : ℕ) → AreDown of cmp a keys level id above place (length keys) at → AreDown of cmp a keys level id above (place + 1) (length keys) (set at place x)
    others_left above x left k d low high =
        let other : k ≢ place = λ same. omega (arith, low, same) in
        rw (get_or-set_other at place k x 0 other) (left k d (omega (arith, low)) high)

  -- the keys before a place have their leaves, and that one too
  pub one_found : (place : ℕ) (key : Q) → key ≡ get_or keys place key → place < length keys → (leaves : List (Option ℕ)) → place < length leaves → (at : ℕ) → 0 < level
      → IsDown cmp a (of key) level id 1 at → HaveLeaves of cmp a (Some (root_at id level)) keys place leaves
      → HaveLeaves of cmp a (Some (root_at id level)) keys (place + 1) (set leaves place (leaf_of cmp (of key) (get a.nodes at)))
  one_found place key is_key within leaves held at inner down before k d high = by_place (cases_eq k place)
    where
      x : Option ℕ
      x = leaf_of cmp (of key) (get a.nodes at)

      by_place : (k ≡ place) ⊎ (k ≢ place) → LeafUnder cmp a (Some (root_at id level)) (of (get_or keys k d)) (get_or (set leaves place x) k None)
      by_place (inl same) =
          let read : key ≡ get_or keys place d = get_or_read keys place key within is_key d in
          rw (same, get_or-set_same leaves place x None held, ← read) (ends o a (of key) level id at inner down)
      by_place (inr other) = rw (get_or-set_other leaves place k x None other) (before k d (omega (arith, high, other)))
