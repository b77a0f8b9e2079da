-- Where a walk opens that seeks the first key past a bound, and how it goes on.
use Rattle.std.specs.Prelude.{◌≡◌, ℕ, true, false, List, ◌∷◌, ◌++◌, Option, None, Some, MatchOption}
use Rattle.std.specs.List.{AllByRecursion}
use Rattle.std.specs.declared.cmp.Ordering.{Ordering}
use Rattle.std.specs.declared.ops.Bound.{Bound}
use Rattle.slab.specs.Slab.{Slab}
use Rattle.tree_leaf.specs.declared.leaf.LeafOf.{LeafOf}
use Rattle.tree_model.specs.declared.way.Way.{Way}
use Rattle.tree_leaf.specs.Chain.{IsChain}
use Rattle.tree_leaf.specs.Entries.{entries_of}
use Rattle.tree_leaf.specs.Rest.{StandsIn, left_of}
use Rattle.tree_leaf.specs.Walks.{LeafWalk, standing, stood_on}
use Rattle.tree_model.specs.Ways.{along}
use Rattle.tree_leaf.specs.Ways.{beyond}
use Rattle.tree_node.specs.Arenas.{TreeArenas}
use Rattle.tree_node.specs.Tree.{leaves_at, walk}
use Rattle.tree_parts.specs.Ends.{passed}
use Rattle.tree_model.specs.Cursor.{meets}

-- no key of these pairs is within the bound at which the way begins
abbrev pub NoneMeets : {K V : Type 0} → (K → K → Ordering) → Way → Bound K → List (K × V) → Type 0
NoneMeets cmp way bound pairs = AllByRecursion (λ pair. meets cmp way bound pair.0 ≡ false) pairs

-- the pairs of a part and then those beyond it, in the order of the way, where these leaves stand before and behind the part
abbrev pub path : {K V : Type 0} {LEN : ℕ} → Way → ℕ → TreeArenas K V LEN → ℕ → List ℕ → List ℕ → List (K × V)
path way level arenas id front back = along way (walk level arenas id) ++ along way (entries_of arenas.leaves (beyond way front back))

module _ {K V : Type 0} {LEN : ℕ} (cmp : K → K → Ordering) (way : Way) where
  -- the walk stands unopened in a leaf of the part, before which none is
  pub record Opens (level : ℕ) (arenas : TreeArenas K V LEN) (id : ℕ) (bound : Bound K) (begun : LeafWalk K V LEN) : Type 0 where
    pub unopened : begun ≡ standing arenas.leaves begun.leaf None
    pub front : List ℕ
    pub back : List ℕ
    pub parts : leaves_at level arenas.nodes id ≡ front ++ begun.leaf ∷ back
    pub none_before : NoneMeets cmp way bound (entries_of arenas.leaves (passed way front back))

  -- the walk stands in a leaf of the chain on the first of these pairs that is within the bound
  pub record IsNearest (bound : Bound K) (pairs : List (K × V)) (leaves : Slab (LeafOf K V LEN)) (chain : List ℕ) (found : LeafWalk K V LEN) : Type 0 where
    pub stand : StandsIn leaves chain found
    pub before : List (K × V)
    pub pair : K × V
    pub here : stood_on found ≡ Some pair
    pub parts : pairs ≡ before ++ pair ∷ left_of way found stand.front stand.back
    pub none_before : NoneMeets cmp way bound before
    pub met : meets cmp way bound pair.0 ≡ true

  -- it is found, or the part has none; over every chain that the part is in
  abbrev pub Seeks : ℕ → TreeArenas K V LEN → ℕ → Bound K → Option (LeafWalk K V LEN) → Type 0
  Seeks level arenas id bound result =
      (front back : List ℕ) → IsChain arenas.leaves (front ++ (leaves_at level arenas.nodes id ++ back))
      → MatchOption result (NoneMeets cmp way bound (along way (walk level arenas id)))
      (IsNearest bound (path way level arenas id front back) arenas.leaves (front ++ (leaves_at level arenas.nodes id ++ back)))
