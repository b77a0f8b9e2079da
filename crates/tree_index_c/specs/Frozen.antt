-- Handles that share a frozen index.
use Rattle.std.specs.Prelude.{◌≡◌, ◌⊎◌, ℤ, ⊤, Option, None, Some, Result, Ok, Err}
use Rattle.std.specs.Arc.{arc_value}
use Rattle.std.specs.declared.alloc.AllocError.{AllocError}
use Rattle.tree_index_c.specs.declared.status.TheConstants.{NO, YES, NO_MEMORY, MISFIT}
use Rattle.tree_index_c.specs.declared.store.Store.{Store}
use Rattle.tree_index_c.specs.declared.store.Store.TheVariants.{Numbers, Bytes, FrozenNumbers, FrozenBytes}

-- The second store is frozen, and has the index of the first, which isn't.
abbrev pub IsFrozenOf : Store → Store → Type 0
IsFrozenOf (Numbers index) (FrozenNumbers shared) = arc_value shared ≡ index
IsFrozenOf (Bytes index) (FrozenBytes shared) = arc_value shared ≡ index
IsFrozenOf _ _ = ⊥

-- Both stores are frozen, and have one index.
abbrev pub Shares : Store → Store → Type 0
Shares (FrozenNumbers one) (FrozenNumbers other) = arc_value other ≡ arc_value one
Shares (FrozenBytes one) (FrozenBytes other) = arc_value other ≡ arc_value one
Shares _ _ = ⊥

-- The index of a handle is frozen. Or an allocation failed, and it is as it was.
abbrev pub Freezes : Option Store → ℤ → Option Store → Type 0
Freezes (Some (Numbers index)) answer (Some new) = ((answer ≡ YES) × IsFrozenOf (Numbers index) new) ⊎ ((answer ≡ NO_MEMORY) × (new ≡ Numbers index))
Freezes (Some (Bytes index)) answer (Some new) = ((answer ≡ YES) × IsFrozenOf (Bytes index) new) ⊎ ((answer ≡ NO_MEMORY) × (new ≡ Bytes index))
Freezes (Some (Numbers index)) answer None = ⊥
Freezes (Some (Bytes index)) answer None = ⊥
Freezes old answer new = (answer ≡ MISFIT) × (new ≡ old)

-- A frozen index is its handle's own again. Or other handles share it, and it is as it was.
abbrev pub Thaws : Option Store → ℤ → Option Store → Type 0
Thaws (Some (FrozenNumbers shared)) answer (Some new) = ((answer ≡ YES) × IsFrozenOf new (FrozenNumbers shared)) ⊎ ((answer ≡ NO) × (new ≡ FrozenNumbers shared))
Thaws (Some (FrozenBytes shared)) answer (Some new) = ((answer ≡ YES) × IsFrozenOf new (FrozenBytes shared)) ⊎ ((answer ≡ NO) × (new ≡ FrozenBytes shared))
Thaws (Some (FrozenNumbers shared)) answer None = ⊥
Thaws (Some (FrozenBytes shared)) answer None = ⊥
Thaws old answer new = (answer ≡ MISFIT) × (new ≡ old)

-- A closed handle is opened on the index of a frozen one. Or an allocation failed, and it stays closed.
abbrev pub OpensShared : Option Store → Option Store → ℤ → Option Store → Type 0
OpensShared (Some (FrozenNumbers shared)) None answer (Some to) = (answer ≡ YES) × Shares (FrozenNumbers shared) to
OpensShared (Some (FrozenBytes shared)) None answer (Some to) = (answer ≡ YES) × Shares (FrozenBytes shared) to
OpensShared (Some (FrozenNumbers shared)) None answer None = answer ≡ NO_MEMORY
OpensShared (Some (FrozenBytes shared)) None answer None = answer ≡ NO_MEMORY
OpensShared from old answer new = (answer ≡ MISFIT) × (new ≡ old)

-- Another store shares the index of a frozen one, unless the count of these is full. There is none if the index isn't frozen.
abbrev pub SharesIfFrozen : Store → Result (Option Store) AllocError → Type 0
SharesIfFrozen (FrozenNumbers shared) (Ok (Some other)) = Shares (FrozenNumbers shared) other
SharesIfFrozen (FrozenBytes shared) (Ok (Some other)) = Shares (FrozenBytes shared) other
SharesIfFrozen (FrozenNumbers shared) (Err _) = ⊤
SharesIfFrozen (FrozenBytes shared) (Err _) = ⊤
SharesIfFrozen (Numbers _) (Ok None) = ⊤
SharesIfFrozen (Bytes _) (Ok None) = ⊤
SharesIfFrozen _ _ = ⊥
