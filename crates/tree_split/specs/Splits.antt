-- What making room in a part leaves: a child that has none gives its lower part to a new child before it, or is rebuilt.
use Rattle.std.specs.Prelude.{◌≡◌, ◌⊎◌, ℕ, suc, ◌-◌, ◌<◌, ◌≤◌, ◌==◌, ◌&&◌, Bool, true, false, List, [], ◌∷◌, ◌++◌, length, Option, Some, None, if◌then◌else◌}
use Rattle.std.specs.Ordering.{is_lt}
use Rattle.tree_node.specs.Arenas.{AllByRecursion, Arrivals, LeafOf, Less, Ordering, TreeArenas, boundary, get, in_order, leaf_entries, limit, times}
use Rattle.tree_node.specs.declared.node.NodeOf.{NodeOf}
use Rattle.tree_node.specs.Parts.{KeepsBounds, Replaces, Unchanged}
use Rattle.tree_node.specs.Shape.{held, room, found_keyed, spare}
use Rattle.tree_node.specs.Tree.{IsAbove, IsUpTo, HasChildFor, Stands, keyed, unbounded, children_of, walk}
use Rattle.tree_split.specs.Packed.{HasLast, IsPacked}

-- The parent takes no child more, and the child has too many to be rebuilt. Nothing has changed.
pub record LacksRoom {K V : Type 0} {LEN : ℕ} (level : ℕ) (old new : TreeArenas K V LEN) (parent target : ℕ) : Type 0 where
  pub full : room level old parent ≡ 0
  pub many : limit LEN < held (level - 1) old target
  pub unchanged : Unchanged old new

-- the boundary of a node's array
abbrev pub node_boundary : {K : Type 0} {LEN : ℕ} → (K → K → Ordering) → Option (NodeOf K LEN) → ℕ
node_boundary cmp None = 0
node_boundary {LEN = LEN} cmp (Some node) = (boundary cmp LEN (keyed node)).0

-- The child was rebuilt over its children, of which it had few; or its parent had room, and a new node got the first of them, up to the one at the boundary.
abbrev pub SharesChildren : {K V : Type 0} {LEN : ℕ} → (K → K → Ordering) → ℕ → TreeArenas K V LEN → TreeArenas K V LEN → ℕ → ℕ → Type 0
SharesChildren {LEN = LEN} cmp level old new parent target =
    ((held (level - 1) old target ≤ limit LEN) × (children_of new.nodes target ≡ children_of old.nodes target))
    ⊎ ((0 < room level old parent)
    × (low : ℕ) × (get old.nodes low ≡ None) × (length (children_of new.nodes low) ≡ suc (node_boundary cmp (get old.nodes target)))
    × (children_of old.nodes target ≡ children_of new.nodes low ++ children_of new.nodes target))

module _ {K V : Type 0} {LEN : ℕ} (cmp : K → K → Ordering) where
  -- A part that is packed stays so where its last child was full, and has a keyed child more.
  abbrev pub KeepsPacked : Option K → ℕ → TreeArenas K V LEN → TreeArenas K V LEN → ℕ → ℕ → Type 0
  KeepsPacked beyond level old new id child =
      HasLast (get old.nodes id) child → room (level - 1) old child ≡ 0 → IsPacked cmp beyond level old id
      → IsPacked cmp beyond level new id × (found_keyed (get old.nodes id) < found_keyed (get new.nodes id))

  -- The part has the same pairs, between bounds that the key is within, and the child for the key has room.
  pub record HasMadeRoom (level : ℕ) (old new : TreeArenas K V LEN) (id : ℕ) (key : K) : Type 0 where
    pub pairs : walk level new id ≡ walk level old id
    pub stands : (low high : Option K) → IsAbove cmp low key → IsUpTo cmp key high → Stands cmp level old low id high → Stands cmp level new low id high
    pub replaces : Replaces level old new (id ∷ []) (id ∷ [])
    -- as many writes are sure to go into it
    pub spares : spare level old id ≤ spare level new id
    -- at most one place of its array is taken
    pub spends : room level old id ≤ suc (room level new id)
    -- so that a second insert does not ask for a split
    pub child : (child : ℕ) → HasChildFor cmp key (get new.nodes id) child → 0 < room (level - 1) new child
    -- with the key beyond its edge
    pub packed : (child : ℕ) → KeepsPacked (Some key) level old new id child

  -- the child that the key belongs to now, or none where no room could be made
  abbrev pub RoomResult : Option ℕ → ℕ → TreeArenas K V LEN → TreeArenas K V LEN → ℕ → ℕ → K → Type 0
  RoomResult (Some home) level old new id target key = HasMadeRoom level old new id key × HasChildFor cmp key (get new.nodes id) home
  RoomResult None level old new id target key = LacksRoom level old new id target

  -- The child has room now, and the part above it is what it was but for one child more at most, which has room too.
  pub record SplitsChild (level : ℕ) (old new : TreeArenas K V LEN) (parent target : ℕ) : Type 0 where
    pub pairs : walk level new parent ≡ walk level old parent
    pub keeps : KeepsBounds cmp level old new parent
    pub replaces : Replaces level old new (parent ∷ []) (parent ∷ [])
    pub spares : spare level old parent ≤ spare level new parent
    pub spends : room level old parent ≤ suc (room level new parent)
    pub roomy : 0 < room (level - 1) new target
    -- the child's children stand in one node or two
    pub shares : SharesChildren cmp level old new parent target
    -- a child that the parent didn't have before
    pub gained : (child : ℕ) → 0 < times child (children_of new.nodes parent) → times child (children_of old.nodes parent) ≡ 0 → 0 < room (level - 1) new child
    -- a key that belonged to the child belongs to one with room
    pub routed : (key : K) → HasChildFor cmp key (get old.nodes parent) target → (child : ℕ) → HasChildFor cmp key (get new.nodes parent) child → 0 < room (level - 1) new child
    -- with or without a key beyond its edge
    pub packed : (beyond : Option K) → KeepsPacked beyond level old new parent target

  abbrev pub SplitResult : Bool → ℕ → TreeArenas K V LEN → TreeArenas K V LEN → ℕ → ℕ → Type 0
  SplitResult true level old new parent target = SplitsChild level old new parent target
  SplitResult false level old new parent target = LacksRoom level old new parent target

-- So many first entries make room for the key where they part from the others: some stay, or the key is larger than all.
pub record IsCut {K V : Type 0} (cmp : K → K → Ordering) (key : K) (count : ℕ) (entries : List (K × V)) : Type 0 where
  pub some : 0 < count
  pub within : count ≤ length entries
  pub stays : (count < length entries) ⊎ AllByRecursion (λ p. cmp p.0 key ≡ Less) entries

-- each of these keys is smaller than the key
abbrev pub all_smaller : {K V : Type 0} → (K → K → Ordering) → K → List (K × V) → Bool
all_smaller cmp key [] = true
all_smaller cmp key (p ∷ rest) = is_lt (cmp p.0 key) && all_smaller cmp key rest

-- How many first entries part from the others for a key: those up to the boundary; but all of the last leaf, where they arrived in ascending order and the key is beyond them.
abbrev pub low_part : {K V : Type 0} → (K → K → Ordering) → ℕ → Bool → Arrivals K V → K → ℕ
low_part cmp len last array key =
    let cut = boundary cmp len array in
    if last && (cut.2 && all_smaller cmp key array.entries) then cut.1 else cut.0

-- as many entries as there are slots go only where they arrived in ascending order
abbrev pub GoesWhole : {K V : Type 0} → ℕ → Arrivals K V → ℕ → Type 0
GoesWhole len array count = count ≡ len → array ≡ in_order array.entries

-- whether this is the unbounded child
abbrev pub is_at : Option ℕ → ℕ → Bool
is_at None child = false
is_at (Some last) child = last == child

abbrev pub is_last : {K : Type 0} {LEN : ℕ} → Option (NodeOf K LEN) → ℕ → Bool
is_last None child = false
is_last (Some node) child = is_at (unbounded node) child

-- how many first entries of the leaf part from the others for a key
abbrev pub leaf_part : {K V : Type 0} {LEN : ℕ} → (K → K → Ordering) → Bool → Option (LeafOf K V LEN) → K → ℕ
leaf_part cmp last None key = 0
leaf_part {LEN = LEN} cmp last (Some leaf) key = low_part cmp LEN last leaf.array key

-- a new leaf got so many first entries
abbrev pub GivesFirst : {K V : Type 0} {LEN : ℕ} → TreeArenas K V LEN → TreeArenas K V LEN → ℕ → ℕ → Type 0
GivesFirst old new target count =
    (low : ℕ) × (get old.leaves low ≡ None) × (length (leaf_entries new.leaves low) ≡ count) × (leaf_entries old.leaves target ≡ leaf_entries new.leaves low ++ leaf_entries new.leaves target)

-- The leaf was rebuilt with its entries, of which it had few; or its node had room, and a new leaf got the first of them, by the rule.
abbrev pub SharesEntries : {K V : Type 0} {LEN : ℕ} → (K → K → Ordering) → TreeArenas K V LEN → TreeArenas K V LEN → ℕ → ℕ → K → Type 0
SharesEntries {LEN = LEN} cmp old new id target key =
    ((held 0 old target ≤ limit LEN) × (leaf_entries new.leaves target ≡ leaf_entries old.leaves target))
    ⊎ ((0 < room 1 old id) × GivesFirst old new target (leaf_part cmp (is_last (get old.nodes id) target) (get old.leaves target) key))

-- the last leaf of a packed part gives all its entries, where it is full and the key is beyond them
abbrev pub GivesAll : {K V : Type 0} {LEN : ℕ} → (K → K → Ordering) → TreeArenas K V LEN → ℕ → ℕ → ℕ → K → Type 0
GivesAll {LEN = LEN} cmp arenas id target count key = HasChildFor cmp key (get arenas.nodes id) target → room 0 arenas target ≡ 0 → IsPacked cmp (Some key) 1 arenas id → count ≡ LEN
