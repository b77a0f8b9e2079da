-- How a call changes one node.
use Rattle.std.specs.Prelude.{◌≡◌, ℕ, ◌+◌, List, [], ◌∷◌, ◌++◌, take, drop, Option, None, Some, slice_get}
use Rattle.tree_array.specs.declared.answers.RemoveResult.{RemoveResult}
use Rattle.tree_array.specs.declared.answers.RemoveResult.TheVariants.{Success, Retired, Fail}
use Rattle.tree_node.specs.Arenas.{Arrivals, NodeOf, Ordering, in_order, removed}
use Rattle.tree_node.specs.Tree.{HasKind, keyed, unbounded}

-- A node has given its first keyed children to another one of its kind, with the next one as the unbounded child, whose separator is left over.
pub record CutsNode {K : Type 0} {LEN : ℕ} (old : NodeOf K LEN) (place : ℕ) (new low : NodeOf K LEN) (separator : K) : Type 0 where
  pub middle : ℕ
  pub apart : slice_get (keyed old).entries place ≡ Some (separator, middle)
  pub low_keyed : keyed low ≡ in_order (take place (keyed old).entries)
  pub low_last : unbounded low ≡ Some middle
  pub high_keyed : keyed new ≡ in_order (drop (place + 1) (keyed old).entries)
  pub high_last : unbounded new ≡ unbounded old
  pub low_kind : (level : ℕ) → HasKind level old → HasKind level low
  pub high_kind : (level : ℕ) → HasKind level old → HasKind level new

-- a node has the same children, each of which arrived again
pub record RebuildsNode {K : Type 0} {LEN : ℕ} (old new : NodeOf K LEN) : Type 0 where
  pub rebuilt : keyed new ≡ in_order (keyed old).entries
  pub last : unbounded new ≡ unbounded old
  pub kind : (level : ℕ) → HasKind level old → HasKind level new

-- the child of the greatest separator moves to the place of the unbounded one, or there is none
abbrev pub MovesLast : {K X : Type 0} → (K → K → Ordering) → Arrivals K X → Arrivals K X → Option X → RemoveResult → Type 0
MovesLast cmp old new last Success =
    (separator : _) × (child : _) × (front : List _) × (old.entries ≡ front ++ (separator, child) ∷ []) × (new ≡ removed cmp old separator) × (last ≡ Some child)
MovesLast cmp old new last Retired = (old.entries ≡ []) × (new ≡ old) × (last ≡ None)
MovesLast cmp old new last Fail = ⊥
