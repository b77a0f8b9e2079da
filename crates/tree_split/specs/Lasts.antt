-- The last leaf under a node, where room is made for a key.
use Rattle.std.specs.Prelude.{◌≡◌, ℕ, Bool, true, false, List, []}
use Rattle.std.specs.Option.{ForSome}
use Rattle.tree_node.specs.Arenas.{AllByRecursion, Less, Ordering, TreeArenas, get, in_order, leaf_entries}
use Rattle.tree_node.specs.Shape.{room}
use Rattle.tree_node.specs.Tree.{HasChildFor}
use Rattle.tree_split.specs.Packed.{HasLast}
use Rattle.tree_split.specs.Splits.{HasMadeRoom}

-- A key that is larger than all of the last leaf belongs to it still, and the leaf is the last one still.
abbrev pub StaysLast : {K V : Type 0} {LEN : ℕ} → (K → K → Ordering) → TreeArenas K V LEN → TreeArenas K V LEN → ℕ → ℕ → K → ℕ → Type 0
StaysLast cmp old new id target key home =
    HasLast (get old.nodes id) target → AllByRecursion (λ p. cmp p.0 key ≡ Less) (leaf_entries old.leaves target)
    → (home ≡ target) × HasLast (get new.nodes id) target

-- these pairs arrived again in the leaf, in ascending order
abbrev pub HoldsAnew : {K V : Type 0} {LEN : ℕ} → TreeArenas K V LEN → ℕ → List (K × V) → Type 0
HoldsAnew arenas id pairs = ForSome (get arenas.leaves id) (λ leaf. leaf.array ≡ in_order pairs)

-- All pairs of the last leaf, which was full, went to a new leaf before it. The key belongs to the leaf, which is the last one still.
pub record IsEmptied {K V : Type 0} {LEN : ℕ} (cmp : K → K → Ordering) (old new : TreeArenas K V LEN) (id target : ℕ) (key : K) : Type 0 where
  pub full : room 0 old target ≡ 0
  pub made : HasMadeRoom cmp 1 old new id key
  pub home : HasChildFor cmp key (get new.nodes id) target
  pub last : HasLast (get new.nodes id) target
  pub empty : HoldsAnew new target []

abbrev pub EmptiesLast : {K V : Type 0} {LEN : ℕ} → (K → K → Ordering) → TreeArenas K V LEN → TreeArenas K V LEN → ℕ → ℕ → K → Bool → Type 0
EmptiesLast cmp old new id target key true = IsEmptied cmp old new id target key
EmptiesLast cmp old new id target key false = new ≡ old
