-- Pairs that arrive in the order of their keys.
use Rattle.std.specs.Prelude.{◌≡◌, ◌⊎◌, ℕ, ℤ, ◌+◌, ◌<◌, ◌≤◌, true, List, [], ◌∷◌, drop, length, take, Option, None, Some}
use Rattle.std.specs.Cmp.Lexicographic.{slice_cmp}
use Rattle.std.specs.Ordering.{nat_cmp}
use Rattle.tree_model.specs.Pairs.{IsAscending}
use Rattle.tree_index_c.specs.declared.entry.Entry.{Entry}
use Rattle.tree_index_c.specs.declared.status.TheConstants.{NO, YES, NO_MEMORY, MISFIT, NO_ROOM}
use Rattle.tree_index_c.specs.declared.store.Store.{Store}
use Rattle.tree_index_c.specs.declared.store.Store.TheVariants.{Numbers, Bytes}

-- A closed handle is opened on an index of these pairs, as full as can be, if they ascend.
abbrev pub OpensSorted : List (ℕ × ℕ) → Option Store → ℤ → Option Store → Type 0
OpensSorted pairs None answer (Some (Numbers index)) = (answer ≡ YES) × (index.pairs ≡ pairs) × (index.packed ≡ true)
OpensSorted pairs None answer None = ((answer ≡ NO) × (IsAscending nat_cmp pairs → ⊥)) ⊎ (answer ≡ NO_MEMORY)
OpensSorted pairs None answer (Some new) = ⊥
OpensSorted pairs (Some old) answer new = (answer ≡ MISFIT) × (new ≡ Some old)

-- the pairs of some entries, whose keys lie one after another in some bytes
abbrev pub parted : List ℕ → List Entry → List (List ℕ × ℕ)
parted bytes [] = []
parted bytes (entry ∷ entries) = (take entry.length bytes, entry.value) ∷ parted (drop entry.length bytes) entries

-- how many bytes the keys of some entries have
abbrev pub size_of : List Entry → ℕ
size_of [] = 0
size_of (entry ∷ entries) = entry.length + size_of entries

-- why there is no index of these pairs
abbrev pub Refuses : List ℕ → List Entry → ℤ → Type 0
Refuses bytes entries answer =
    ((answer ≡ NO) × (IsAscending (slice_cmp nat_cmp) (parted bytes entries) → ⊥))
    ⊎ ((answer ≡ NO_ROOM) × (length bytes < size_of entries))
    ⊎ (answer ≡ NO_MEMORY)

-- A closed handle is opened on an index of these pairs, as full as can be, if they ascend and the bytes of their keys are there.
abbrev pub OpensParted : List ℕ → List Entry → Option Store → ℤ → Option Store → Type 0
OpensParted bytes entries None answer (Some (Bytes index)) = (answer ≡ YES) × (size_of entries ≤ length bytes) × (index.pairs ≡ parted bytes entries) × (index.packed ≡ true)
OpensParted bytes entries None answer None = Refuses bytes entries answer
OpensParted bytes entries None answer (Some new) = ⊥
OpensParted bytes entries (Some old) answer new = (answer ≡ MISFIT) × (new ≡ Some old)
