-- The chain of links between leaves.
use Rattle.std.specs.Prelude.{◌≡◌, ℕ, ◌≤◌, List, [], ◌∷◌, Option, Some, None, ⊤}
use Rattle.slab.specs.Slab.{Slab, get}
use Rattle.tree_leaf.specs.declared.leaf.LeafOf.{LeafOf}
use Rattle.tree_leaf.specs.Counting.{times, uses}

-- the first number of the list, or what follows it
abbrev pub first_or : List ℕ → Option ℕ → Option ℕ
first_or [] after = after
first_or (id ∷ ids) after = Some id

-- the last number of the list, or what is before it
abbrev pub last_or : Option ℕ → List ℕ → Option ℕ
last_or before [] = before
last_or before (id ∷ ids) = last_or (Some id) ids

module _ {K V : Type 0} {LEN : ℕ} where
  -- a leaf stands there with these leaves beside it
  abbrev pub IsBetween : Option (LeafOf K V LEN) → Option ℕ → Option ℕ → Type 0
  IsBetween None prev next = ⊥
  IsBetween (Some leaf) prev next = (leaf.prev ≡ prev) × (leaf.next ≡ next)

  -- the links of these leaves run through them in order, from what is before them to what is after them, and back
  abbrev pub AreLinked : Slab (LeafOf K V LEN) → Option ℕ → List ℕ → Option ℕ → Type 0
  AreLinked leaves before [] after = ⊤
  AreLinked leaves before (id ∷ ids) after = IsBetween (get leaves id) before (first_or ids after) × AreLinked leaves (Some id) ids after

  -- these leaves are a whole chain, with no link before the first and after the last, and each is in it once
  pub record IsChain (leaves : Slab (LeafOf K V LEN)) (ids : List ℕ) : Type 0 where
    pub once : (n : ℕ) → times n ids ≤ uses leaves n
    pub linked : AreLinked leaves None ids None

  -- what stands there is the same leaf but for its links
  abbrev pub SameArray : Option (LeafOf K V LEN) → Option (LeafOf K V LEN) → Type 0
  SameArray None new = new ≡ None
  SameArray (Some leaf) new = (other : LeafOf K V LEN) × (new ≡ Some other) × (other.array ≡ leaf.array)
