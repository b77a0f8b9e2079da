-- How a retired child is taken out of its node and dropped, and what that leaves.
use Rattle.std.specs.Prelude.{◌≡◌, ℕ, ◌+◌, List, [], ◌∷◌, Option, None, Some, IsSome, ⊤}
use Rattle.slab.specs.Slab.{Updates}
use Rattle.tree_array.specs.declared.answers.RemoveResult.{RemoveResult}
use Rattle.tree_array.specs.declared.answers.RemoveResult.TheVariants.{Success, Retired, Fail}
use Rattle.tree_node.specs.declared.node.NodeOf.{NodeOf}
use Rattle.tree_node.specs.Arenas.{Ordering, Slab, TreeArenas, arrival, get, removed, times, uses}
use Rattle.tree_node.specs.Changes.{MovesLast}
use Rattle.tree_node.specs.Parts.{Replaces}
use Rattle.tree_node.specs.Tree.{IsOfLevel, keyed, unbounded, children_of, HasKind, IsRetired}

-- of an arena exactly these numbers are free now
pub record FreesIn {T : Type 0} (old new : Slab T) (ids : List ℕ) : Type 0 where
  pub kept : (n : ℕ) → times n ids ≡ 0 → get new n ≡ get old n
  pub counted : (n : ℕ) → uses new n + times n ids ≡ uses old n

module _ {K : Type 0} (cmp : K → K → Ordering) where
  module _ {LEN : ℕ} (old new : Slab (NodeOf K LEN)) (id : ℕ) where
    -- the keyed child of a slot is taken out of the node under a number
    pub record TakesKeyed (slot : ℕ) : Type 0 where
      pub node : NodeOf K LEN
      pub left : NodeOf K LEN
      pub was : get old id ≡ Some node
      pub updates : Updates old new id (Some left)
      pub kind : (level : ℕ) → HasKind level node → HasKind level left
      pub pair : K × ℕ
      pub there : arrival (keyed node).arrivals slot ≡ Some pair
      pub others : keyed left ≡ removed cmp (keyed node) pair.0
      pub same_unbounded : unbounded left ≡ unbounded node

    -- the unbounded child is taken out of it
    pub record TakesUnbounded (result : RemoveResult) : Type 0 where
      pub node : NodeOf K LEN
      pub left : NodeOf K LEN
      pub was : get old id ≡ Some node
      pub updates : Updates old new id (Some left)
      pub kind : (level : ℕ) → HasKind level node → HasKind level left
      pub moves : MovesLast cmp (keyed node) (keyed left) (unbounded left) result

  module _ {V : Type 0} {LEN : ℕ} (level : ℕ) (old new : TreeArenas K V LEN) (id child : ℕ) where
    -- a child of this level is dropped, and then taken out of its node
    pub record DropsKeyed (slot : ℕ) : Type 0 where
      pub between : TreeArenas K V LEN
      pub dropped : Replaces level old between (child ∷ []) []
      pub takes : TakesKeyed between.nodes new.nodes id slot
      pub leaves : new.leaves ≡ between.leaves

    pub record DropsUnbounded (result : RemoveResult) : Type 0 where
      pub between : TreeArenas K V LEN
      pub dropped : Replaces level old between (child ∷ []) []
      pub takes : TakesUnbounded between.nodes new.nodes id result
      pub leaves : new.leaves ≡ between.leaves

    abbrev pub DropsChild : Option ℕ → RemoveResult → Type 0
    DropsChild None result = DropsUnbounded result
    DropsChild (Some slot) result = DropsKeyed slot × (result ≡ Success)

-- a node is there, with a child in the slot, if one is named
abbrev pub HasChildIn : {K : Type 0} {LEN : ℕ} → Option (NodeOf K LEN) → Option ℕ → Type 0
HasChildIn None slot = ⊥
HasChildIn (Some node) None = ⊤
HasChildIn (Some node) (Some slot) = IsSome (arrival (keyed node).arrivals slot)

module _ {K V : Type 0} {LEN : ℕ} where
  -- this is the only leaf of a leaf node, and retired
  abbrev pub IsOnlyRetired : TreeArenas K V LEN → ℕ → ℕ → Type 0
  IsOnlyRetired arenas id last = (children_of arenas.nodes id ≡ last ∷ []) × IsRetired 0 arenas last

  abbrev pub HasOnlyRetired : TreeArenas K V LEN → ℕ → Type 0
  HasOnlyRetired arenas id = (last : ℕ) × IsOnlyRetired arenas id last

  -- The only leaf of a leaf node was retired, and is freed. The node has no child left, and stays under its number.
  pub record Retires (old new : TreeArenas K V LEN) (id : ℕ) : Type 0 where
    pub only : HasOnlyRetired old id
    pub retired : IsRetired 1 new id
    pub kind : IsOfLevel 1 (get new.nodes id)
    pub replaces : Replaces 1 old new (id ∷ []) (id ∷ [])

  -- a leaf node is retired if its only leaf is a retired one, and else nothing changes
  abbrev pub RetiresIfEmpty : TreeArenas K V LEN → TreeArenas K V LEN → ℕ → RemoveResult → Type 0
  RetiresIfEmpty old new id Success = (new ≡ old) × (HasOnlyRetired old id → ⊥)
  RetiresIfEmpty old new id Retired = Retires old new id
  RetiresIfEmpty old new id Fail = ⊥
