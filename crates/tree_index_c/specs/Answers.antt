-- What a call answers and leaves of an index. `cmp` is the order of its keys.
use Rattle.std.specs.Prelude.{◌≡◌, ◌⊎◌, ℕ, ℤ, List, [], Option, None, Some}
use Rattle.std.specs.Option.{option_map}
use Rattle.std.specs.declared.cmp.Ordering.{Ordering}
use Rattle.tree_index.specs.Index.{Index}
use Rattle.tree_model.specs.Pairs.{IsPresent, IsAbsent, pair_at, put, without}
use Rattle.tree_index_c.specs.declared.status.TheConstants.{NO, YES, NO_MEMORY, MISFIT}
use Rattle.tree_index_c.specs.declared.store.Store.{Store}
use Rattle.tree_index_c.specs.declared.store.Store.TheVariants.{Numbers, Bytes}

-- yes where the one holds, no where the other does
abbrev pub Says : Type 0 → Type 0 → ℤ → Type 0
Says Yes No answer = ((answer ≡ YES) × Yes) ⊎ ((answer ≡ NO) × No)

-- what is there is written to a place, which else stays
abbrev pub Writes : {X : Type 0} → Option X → ℤ → X → X → Type 0
Writes None answer before after = (answer ≡ NO) × (after ≡ before)
Writes (Some x) answer before after = (answer ≡ YES) × (after ≡ x)

module _ {K : Type 0} (cmp : K → K → Ordering) where
  -- A pair is stored if its key is absent, and nothing changes if it is present. An allocation fails only `When` this holds, and the pairs are as they were.
  abbrev pub Stores : Type 0 → K → ℕ → Index K ℕ → ℤ → Index K ℕ → Type 0
  Stores When key value old answer new =
      ((answer ≡ YES) × IsAbsent cmp old.pairs key × (new.pairs ≡ put cmp old.pairs key value))
      ⊎ ((answer ≡ NO) × IsPresent cmp old.pairs key × (new ≡ old))
      ⊎ ((answer ≡ NO_MEMORY) × When × (new.pairs ≡ old.pairs))

  -- A pair is stored, in place of one with an equal key.
  abbrev pub Replaces : Type 0 → K → ℕ → Index K ℕ → ℤ → Index K ℕ → Type 0
  Replaces When key value old answer new =
      ((answer ≡ YES) × (new.pairs ≡ put cmp old.pairs key value))
      ⊎ ((answer ≡ NO_MEMORY) × When × (new.pairs ≡ old.pairs))

  -- The pair with a key is removed. Or an allocation failed, and nothing changed.
  abbrev pub RemovesOrRefuses : K → Index K ℕ → ℤ → Index K ℕ → Type 0
  RemovesOrRefuses key old answer new =
      (Says (IsPresent cmp old.pairs key) (IsAbsent cmp old.pairs key) answer × (new.pairs ≡ without cmp old.pairs key))
      ⊎ ((answer ≡ NO_MEMORY) × (new ≡ old))

  -- Its value is written to a place too.
  abbrev pub TakesOrRefuses : K → Index K ℕ → ℤ → ℕ → ℕ → Index K ℕ → Type 0
  TakesOrRefuses key old answer before after new =
      (Writes (option_map (λ pair. pair.1) (pair_at cmp old.pairs key)) answer before after × (new.pairs ≡ without cmp old.pairs key))
      ⊎ ((answer ≡ NO_MEMORY) × (after ≡ before) × (new ≡ old))

-- A closed handle is opened on an index of numbers that holds these pairs.
abbrev pub OpensNumbers : List (ℕ × ℕ) → Option Store → ℤ → Option Store → Type 0
OpensNumbers pairs None answer (Some (Numbers index)) = (answer ≡ YES) × (index.pairs ≡ pairs)
OpensNumbers pairs None answer None = answer ≡ NO_MEMORY
OpensNumbers pairs None answer (Some new) = ⊥
OpensNumbers pairs (Some old) answer new = (answer ≡ MISFIT) × (new ≡ Some old)

-- the same of an index whose keys are strings of bytes
abbrev pub OpensBytes : List (List ℕ × ℕ) → Option Store → ℤ → Option Store → Type 0
OpensBytes pairs None answer (Some (Bytes index)) = (answer ≡ YES) × (index.pairs ≡ pairs)
OpensBytes pairs None answer None = answer ≡ NO_MEMORY
OpensBytes pairs None answer (Some new) = ⊥
OpensBytes pairs (Some old) answer new = (answer ≡ MISFIT) × (new ≡ Some old)

-- All pairs are removed, unless the index is frozen.
abbrev pub Empties : Option Store → ℤ → Option Store → Type 0
Empties (Some (Numbers old)) answer (Some (Numbers new)) = (answer ≡ YES) × (new.pairs ≡ []) × (new.depth ≡ 0)
Empties (Some (Bytes old)) answer (Some (Bytes new)) = (answer ≡ YES) × (new.pairs ≡ []) × (new.depth ≡ 0)
Empties (Some (Numbers old)) answer new = ⊥
Empties (Some (Bytes old)) answer new = ⊥
Empties old answer new = (answer ≡ MISFIT) × (new ≡ old)
