-- What the calls on links leave. Each is stated over every context: whatever chain ran through the leaf runs as it says.
use Rattle.std.specs.Prelude.{◌≡◌, ◌≢◌, ℕ, ◌+◌, List, ◌∷◌, ◌++◌, Option, Some, None, Result, Ok, Err}
use Rattle.slab.specs.Slab.{Slab, get, slab_len, HasRoomFor}
use Rattle.tree_leaf.specs.declared.leaf.LeafOf.{LeafOf}
use Rattle.tree_leaf.specs.declared.arena.SlotsOf.{SlotsOf}
use Rattle.tree_leaf.specs.Arena.{Refuses}
use Rattle.tree_leaf.specs.Chain.{first_or, last_or, IsChain, SameArray}

module _ {T : Type 0} where
  -- the value under this number, if it is one, is changed by a function, and no other
  pub record ChangesAt (old new : Slab T) (at : Option ℕ) (change : T → T) : Type 0 where
    pub here : (id : ℕ) (value : T) → at ≡ Some id → get old id ≡ Some value → get new id ≡ Some (change value)
    pub others : (n : ℕ) → at ≢ Some n → get new n ≡ get old n

  -- as many numbers are in use, and as many more fit
  pub record SameRoom (old new : Slab T) : Type 0 where
    pub counted : slab_len new ≡ slab_len old
    pub capacity : new.capacity ≡ old.capacity

module _ {K V N : Type 0} {LEN : ℕ} where
  -- the leaves left and right have become the neighbours of each other, and nothing else has changed
  pub record Splices (old new : SlotsOf K V N LEN) (left right : Option ℕ) : Type 0 where
    pub nodes : new.nodes ≡ old.nodes
    pub room : SameRoom old.leaves new.leaves
    pub between : Slab (LeafOf K V LEN)
    pub next_changed : ChangesAt old.leaves between left (λ leaf. record leaf { next = right })
    pub prev_changed : ChangesAt between new.leaves right (λ leaf. record leaf { prev = left })
    pub kept : (n : ℕ) → SameArray (get old.leaves n) (get new.leaves n)
    -- what stood between them in a chain is out of it
    pub chained : (front middle back : List ℕ) → last_or None front ≡ left → first_or back None ≡ right → IsChain old.leaves (front ++ (middle ++ back)) → IsChain new.leaves (front ++ back)

  -- the two neighbours of a leaf have become the neighbours of each other, and nothing else has changed
  pub record Unlinks (old new : SlotsOf K V N LEN) (id : ℕ) : Type 0 where
    pub leaf : LeafOf K V LEN
    pub here : get old.leaves id ≡ Some leaf
    pub splices : Splices old new leaf.prev leaf.next
    -- the leaf is out of its chain
    pub chained : (front back : List ℕ) → IsChain old.leaves (front ++ id ∷ back) → IsChain new.leaves (front ++ back)

  -- the leaf stands under a number that was free, linked before the one at `at`, and nothing else has changed but the links to it
  pub record GainsBefore (old new : SlotsOf K V N LEN) (at id : ℕ) (leaf : LeafOf K V LEN) : Type 0 where
    pub nodes : new.nodes ≡ old.nodes
    pub was_free : get old.leaves id ≡ None
    pub counted : slab_len new.leaves ≡ slab_len old.leaves + 1
    pub room : (more : ℕ) → HasRoomFor old.leaves (more + 1) → HasRoomFor new.leaves more
    pub after : LeafOf K V LEN
    pub was : get old.leaves at ≡ Some after
    pub here : get new.leaves id ≡ Some (record leaf { prev = after.prev; next = Some at })
    pub kept : (n : ℕ) → n ≢ id → SameArray (get old.leaves n) (get new.leaves n)
    pub others : (n : ℕ) → n ≢ id → n ≢ at → after.prev ≢ Some n → get new.leaves n ≡ get old.leaves n
    -- the leaf is in the chain, before the other one
    pub chained : (front back : List ℕ) → IsChain old.leaves (front ++ at ∷ back) → IsChain new.leaves (front ++ id ∷ (at ∷ back))

  -- the leaf is added; or memory was refused, which it isn't where there is room: the leaf comes back
  abbrev pub AddsBefore : SlotsOf K V N LEN → SlotsOf K V N LEN → ℕ → LeafOf K V LEN → Result ℕ (LeafOf K V LEN) → Type 0
  AddsBefore old new at leaf (Ok id) = GainsBefore old new at id leaf
  AddsBefore old new at leaf (Err back) = Refuses old.leaves new.leaves leaf back × (new.nodes ≡ old.nodes)
