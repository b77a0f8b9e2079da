-- What the calls of the arenas answer and leave. Each arena is a slab: `get` is what stands under a number, and `HasRoomFor` says that so many more fit without memory.
use Rattle.std.specs.Prelude.{◌≡◌, ℕ, ◌+◌, Result, Ok, Err, Some, None, []}
use Rattle.slab.specs.Slab.{Slab, get, slab_len, HasRoomFor, Updates}
use Rattle.tree_leaf.specs.declared.arena.SlotsOf.{SlotsOf}

module _ {T : Type 0} where
  -- every number has what it had, and there is room for as many more as before
  pub record Keeps (old new : Slab T) : Type 0 where
    pub slots : new.slots ≡ old.slots
    pub room : (more : ℕ) → HasRoomFor old more → HasRoomFor new more

  -- the value stands under a number that was free, every other number has what it had, and one place is used up
  pub record Gains (old new : Slab T) (id : ℕ) (value : T) : Type 0 where
    pub was_free : get old id ≡ None
    pub updates : Updates old new id (Some value)
    pub counted : slab_len new ≡ slab_len old + 1
    pub room : (more : ℕ) → HasRoomFor old (more + 1) → HasRoomFor new more

  -- the value is gone from its number, which is free now, every other number has what it had, and there is one place more
  pub record Loses (old new : Slab T) (id : ℕ) (value : T) : Type 0 where
    pub here : get old id ≡ Some value
    pub updates : Updates old new id None
    pub counted : slab_len new + 1 ≡ slab_len old
    pub room : (more : ℕ) → HasRoomFor old more → HasRoomFor new (more + 1)

  -- memory was refused, which it isn't where there is room: the value comes back
  pub record Refuses (old new : Slab T) (value back : T) : Type 0 where
    pub same : back ≡ value
    pub kept : Keeps old new
    pub no_room : HasRoomFor old 1 → ⊥

  abbrev pub Adds : Slab T → Slab T → T → Result ℕ T → Type 0
  Adds old new value (Ok id) = Gains old new id value
  Adds old new value (Err back) = Refuses old new value back

module _ {K V N : Type 0} {LEN : ℕ} where
  -- no number is in use
  pub record IsEmpty (arenas : SlotsOf K V N LEN) : Type 0 where
    pub leaves : arenas.leaves.slots ≡ []
    pub nodes : arenas.nodes.slots ≡ []

  -- every number of both arenas has what it had
  pub record KeepsBoth (old new : SlotsOf K V N LEN) : Type 0 where
    pub leaves : Keeps old.leaves new.leaves
    pub nodes : Keeps old.nodes new.nodes

  -- so many leaves and so many nodes fit without memory
  pub record HasPlaces (arenas : SlotsOf K V N LEN) (more_leaves more_nodes : ℕ) : Type 0 where
    pub leaves : HasRoomFor arenas.leaves more_leaves
    pub nodes : HasRoomFor arenas.nodes more_nodes

  -- the places are there; or memory was refused, which it isn't where they were there before
  abbrev pub Reserves : {A E : Type 0} → SlotsOf K V N LEN → SlotsOf K V N LEN → ℕ → ℕ → Result A E → Type 0
  Reserves old new leaves nodes (Ok _) = KeepsBoth old new × HasPlaces new leaves nodes
  Reserves old new leaves nodes (Err _) = KeepsBoth old new × (HasPlaces old leaves nodes → ⊥)
