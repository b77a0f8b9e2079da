-- A walk over the entries of linked leaves, in the order of their keys or against it. In one leaf it goes from entry to entry, and a jump takes it to the next leaf that has one.
use Rattle.tree_model.specs.Rest.{lent_entry}
use Rattle.std.specs.Prelude.{◌≡◌, ℕ, ◌-◌, ◌==◌, if◌then◌else◌, List, ◌∷◌, ◌++◌, length, map, Option, None, Some, option_map, option_and_then, slice_get}
use Rattle.std.specs.Borrow.{Bor}
use Rattle.std.specs.Iterator.{Count, at_most}
use Rattle.slab.specs.Slab.{Slab, get}
use Rattle.tree_array.specs.Arrivals.{arrival}
use Rattle.tree_array.specs.Walk.{StepsOver, Walk, next_place, places_left}
use Rattle.tree_leaf.specs.declared.leaf.LeafOf.{LeafOf}
use Rattle.tree_model.specs.declared.way.Way.{Way}
use Rattle.tree_model.specs.declared.way.Way.TheVariants.{On, Back}
use Rattle.tree_leaf.specs.Chain.{IsChain}
use Rattle.tree_leaf.specs.Entries.{leaf_entries, entries_of}
use Rattle.tree_leaf.specs.Ways.{beyond, landing, leaves_on}

-- the leaves, the number of the one that the walk stands in, and the place among its entries, if the walk has begun there
pub record LinkedWalk (L : Type 0) : Type 0 where
  pub leaves : Slab L
  pub leaf : ℕ
  pub at : Option ℕ

abbrev pub LeafWalk : Type 0 → Type 0 → ℕ → Type 0
LeafWalk K V LEN = LinkedWalk (LeafOf K V LEN)

abbrev pub standing : {L : Type 0} → Slab L → ℕ → Option ℕ → LinkedWalk L
standing leaves id at = record { leaves = leaves; leaf = id; at = at }

abbrev pub first_of : {X : Type 0} → List X → Option X
first_of xs = slice_get xs 0

abbrev pub last_of : {X : Type 0} → List X → Option X
last_of xs = slice_get xs (length xs - 1)

-- the one that a walk this way comes to first
abbrev pub first_on : {X : Type 0} → Way → List X → Option X
first_on On xs = first_of xs
first_on Back xs = last_of xs

module _ {K V : Type 0} {LEN : ℕ} where
  -- the entries of the leaf that the walk stands in
  abbrev pub here : LeafWalk K V LEN → List (K × V)
  here walk = leaf_entries walk.leaves walk.leaf

  -- the entry that the walk stands on, if it has begun
  abbrev pub stood_on : LeafWalk K V LEN → Option (K × V)
  stood_on walk = option_and_then (slice_get (here walk)) walk.at

  -- one step through the entries of the leaf
  abbrev pub Steps : Way → LeafWalk K V LEN → Option (Bor K × Bor V) → LeafWalk K V LEN → Type 0
  Steps way old result new =
      (new ≡ standing old.leaves old.leaf new.at)
      × StepsOver way (here old) old.at (option_map lent_entry result) new.at

  -- how many steps are left in the leaf at most
  abbrev pub left_in_leaf : Way → LeafWalk K V LEN → Count
  left_in_leaf way walk = at_most (places_left way (length (here walk)) walk.at)

  -- Where a jump ends that lands in this leaf: at its first entry on the way, or unopened if it has none. Where there is no leaf it stays.
  abbrev pub jumped : Way → LeafWalk K V LEN → Option ℕ → LeafWalk K V LEN
  jumped way walk None = walk
  jumped way walk (Some id) =
      let count = length (leaf_entries walk.leaves id) in
      standing walk.leaves id (if count == 0 then None else Some (next_place way count None))

  -- over every context: a jump over the leaves that the way leads to, to the first entry that they have
  abbrev pub Jumps : Way → LeafWalk K V LEN → Option (Bor K × Bor V) → LeafWalk K V LEN → Type 0
  Jumps way old result new =
      (front back : List ℕ) → IsChain old.leaves (front ++ old.leaf ∷ back)
      → (new ≡ jumped way old (landing old.leaves None (leaves_on way front back))) × (option_map lent_entry result ≡ first_on way (entries_of old.leaves (beyond way front back)))

  -- a walk stands in the leaf, which has this number in a chain, over the slots of its entries
  pub record IsStand (leaves : Slab (LeafOf K V LEN)) (id : ℕ) (leaf : LeafOf K V LEN) (slots : Walk) : Type 0 where
    pub there : get leaves id ≡ Some leaf
    pub front : List ℕ
    pub back : List ℕ
    pub chain : IsChain leaves (front ++ id ∷ back)
    pub slots_are : map (arrival leaf.array.arrivals) slots.slots ≡ map Some leaf.array.entries
