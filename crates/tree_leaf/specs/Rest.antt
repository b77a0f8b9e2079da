-- What is left of a walk on its way through a chain, and that a walk with its jumps takes it entry by entry.
use Rattle.std.specs.Prelude.{◌≡◌, ℕ, List, [], ◌∷◌, ◌++◌, map, reverse, Option, Some, IfSome}
use Rattle.std.specs.Borrow.{Bor}
use Rattle.std.specs.Map.Iter.{TakesFirst}
use Rattle.slab.specs.Slab.{Slab}
use Rattle.tree_leaf.specs.declared.leaf.LeafOf.{LeafOf}
use Rattle.tree_model.specs.declared.way.Way.{Way}
use Rattle.tree_model.specs.declared.way.Way.TheVariants.{On, Back}
use Rattle.tree_leaf.specs.Chain.{IsChain}
use Rattle.tree_leaf.specs.Entries.{entries_of}
use Rattle.tree_leaf.specs.Walks.{LeafWalk, here, stood_on}
use Rattle.tree_model.specs.Rest.{lent_entry}
use Rattle.tree_leaf.specs.Ways.{ahead, beyond}
use Rattle.tree_model.specs.Ways.{along}

module _ {K V : Type 0} {LEN : ℕ} where
  -- of the entries of a chain, in which these leaves stand before the walk's leaf and behind it, those that lie ahead of the walk, in its order
  abbrev pub left_of : Way → LeafWalk K V LEN → List ℕ → List ℕ → List (K × V)
  left_of way walk front back = ahead way (here walk) walk.at ++ along way (entries_of walk.leaves (beyond way front back))

  -- the entries of a leaf and of all leaves that the way leads to from it
  abbrev pub whole_way : Way → Slab (LeafOf K V LEN) → List ℕ → ℕ → List ℕ → List (K × V)
  whole_way On leaves front id back = entries_of leaves (id ∷ back)
  whole_way Back leaves front id back = reverse (entries_of leaves (front ++ id ∷ []))

  -- the walk stands in a leaf of the chain
  pub record StandsIn (leaves : Slab (LeafOf K V LEN)) (chain : List ℕ) (walk : LeafWalk K V LEN) : Type 0 where
    pub same : walk.leaves ≡ leaves
    pub front : List ℕ
    pub back : List ℕ
    pub stands : front ++ walk.leaf ∷ back ≡ chain

  -- and of what was left it has taken the first entry, on which it stands
  pub record HasTaken (way : Way) (leaves : Slab (LeafOf K V LEN)) (chain : List ℕ) (left : List (K × V)) (result : Option (Bor K × Bor V)) (new : LeafWalk K V LEN) : Type 0 where
    pub stand : StandsIn leaves chain new
    pub takes : TakesFirst lent_entry left result (left_of way new stand.front stand.back)
    pub on : IfSome result (λ entry. stood_on new ≡ Some (lent_entry entry))

  -- over every chain that the leaf is in
  abbrev pub Takes : Way → LeafWalk K V LEN → Option (Bor K × Bor V) → LeafWalk K V LEN → Type 0
  Takes way old result new =
      (front back : List ℕ) → IsChain old.leaves (front ++ old.leaf ∷ back)
      → HasTaken way old.leaves (front ++ old.leaf ∷ back) (left_of way old front back) result new

  -- these are all that is left of a walk, in order
  abbrev pub AreLeft : Way → LeafWalk K V LEN → List (Bor K × Bor V) → Type 0
  AreLeft way walk entries =
      (front back : List ℕ) → IsChain walk.leaves (front ++ walk.leaf ∷ back)
      → map lent_entry entries ≡ left_of way walk front back

  -- these are all entries of a leaf and of the leaves that the way leads to from it, in order
  abbrev pub AreOnTheWay : Way → Slab (LeafOf K V LEN) → ℕ → List (Bor K × Bor V) → Type 0
  AreOnTheWay way leaves id entries =
      (front back : List ℕ) → IsChain leaves (front ++ id ∷ back)
      → map lent_entry entries ≡ whole_way way leaves front id back
