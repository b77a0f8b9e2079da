-- What a handle holds, and what a call does to it.
use Rattle.std.specs.Prelude.{◌≡◌, ℕ, ℤ, List, [], Option, None, Some, MatchOption, length, ⊤}
use Rattle.std.specs.Arc.{arc_value}
use Rattle.tree_index.specs.Index.{Index}
use Rattle.tree_index_c.specs.declared.handle.Handle.{Handle}
use Rattle.tree_index_c.specs.declared.status.TheConstants.{YES, NO_MEMORY, MISFIT}
use Rattle.tree_index_c.specs.declared.store.Store.{Store}
use Rattle.tree_index_c.specs.declared.store.Store.TheVariants.{Numbers, Bytes, FrozenNumbers, FrozenBytes}

-- the index behind a handle, or none where the handle is closed
abbrev pub held : Handle → Option Store
held handle = handle.pointer.behind

abbrev pub pairs_in : {K : Type 0} → Option (Index K ℕ) → List (K × ℕ)
pairs_in None = []
pairs_in (Some index) = index.pairs

-- the index of a store, frozen or not, if its keys are numbers
abbrev pub numbers_of : Store → Option (Index ℕ ℕ)
numbers_of (Numbers index) = Some index
numbers_of (FrozenNumbers shared) = Some (arc_value shared)
numbers_of _ = None

-- the same of strings of bytes
abbrev pub bytes_of : Store → Option (Index (List ℕ) ℕ)
bytes_of (Bytes index) = Some index
bytes_of (FrozenBytes shared) = Some (arc_value shared)
bytes_of _ = None

-- A call that asks an index whose keys are numbers answers this by it. Any other handle is answered with `MISFIT`.
abbrev pub AsksNumbers : (Index ℕ ℕ → ℤ → Type 0) → Option Store → ℤ → Type 0
AsksNumbers Tells None answer = answer ≡ MISFIT
AsksNumbers Tells (Some store) answer = MatchOption (numbers_of store) (answer ≡ MISFIT) (λ index. Tells index answer)

-- the same of strings of bytes
abbrev pub AsksBytes : (Index (List ℕ) ℕ → ℤ → Type 0) → Option Store → ℤ → Type 0
AsksBytes Tells None answer = answer ≡ MISFIT
AsksBytes Tells (Some store) answer = MatchOption (bytes_of store) (answer ≡ MISFIT) (λ index. Tells index answer)

-- This holds of a handle that doesn't lead to an index of numbers.
abbrev pub UnlessNumbers : Option Store → Type 0 → Type 0
UnlessNumbers None Stays = Stays
UnlessNumbers (Some store) Stays = MatchOption (numbers_of store) Stays (λ index. ⊤)

-- the same of strings of bytes
abbrev pub UnlessBytes : Option Store → Type 0 → Type 0
UnlessBytes None Stays = Stays
UnlessBytes (Some store) Stays = MatchOption (bytes_of store) Stays (λ index. ⊤)

-- This holds of a handle that doesn't lead to an index of numbers that can be changed.
abbrev pub UnlessOwnNumbers : Option Store → Type 0 → Type 0
UnlessOwnNumbers (Some (Numbers index)) Stays = ⊤
UnlessOwnNumbers held Stays = Stays

-- the same of strings of bytes
abbrev pub UnlessOwnBytes : Option Store → Type 0 → Type 0
UnlessOwnBytes (Some (Bytes index)) Stays = ⊤
UnlessOwnBytes held Stays = Stays

-- A call on an index whose keys are numbers, and which isn't frozen, does this. Any other handle stays as it is, and the answer is `MISFIT`.
abbrev pub OnNumbers : (Index ℕ ℕ → ℤ → Index ℕ ℕ → Type 0) → Option Store → ℤ → Option Store → Type 0
OnNumbers Does (Some (Numbers old)) answer (Some (Numbers new)) = Does old answer new
OnNumbers Does (Some (Numbers old)) answer new = ⊥
OnNumbers Does old answer new = (answer ≡ MISFIT) × (new ≡ old)

-- the same of strings of bytes
abbrev pub OnBytes : (Index (List ℕ) ℕ → ℤ → Index (List ℕ) ℕ → Type 0) → Option Store → ℤ → Option Store → Type 0
OnBytes Does (Some (Bytes old)) answer (Some (Bytes new)) = Does old answer new
OnBytes Does (Some (Bytes old)) answer new = ⊥
OnBytes Does old answer new = (answer ≡ MISFIT) × (new ≡ old)

-- the pairs of an index of numbers, or none
abbrev pub numbers_in : Option Store → List (ℕ × ℕ)
numbers_in None = []
numbers_in (Some store) = pairs_in (numbers_of store)

-- how many pairs there are, and how many levels of nodes
abbrev pub count_in : Option Store → ℕ
count_in None = 0
count_in (Some (Numbers index)) = length index.pairs
count_in (Some (Bytes index)) = length index.pairs
count_in (Some (FrozenNumbers shared)) = length (arc_value shared).pairs
count_in (Some (FrozenBytes shared)) = length (arc_value shared).pairs

abbrev pub depth_in : Option Store → ℕ
depth_in None = 0
depth_in (Some (Numbers index)) = index.depth
depth_in (Some (Bytes index)) = index.depth
depth_in (Some (FrozenNumbers shared)) = (arc_value shared).depth
depth_in (Some (FrozenBytes shared)) = (arc_value shared).depth

-- how many writes are sure not to allocate
abbrev pub spare_in : Option Store → ℕ
spare_in None = 0
spare_in (Some (Numbers index)) = index.spare
spare_in (Some (Bytes index)) = index.spare
spare_in (Some (FrozenNumbers shared)) = (arc_value shared).spare
spare_in (Some (FrozenBytes shared)) = (arc_value shared).spare

-- an index of the same kind, which isn't frozen, has the same pairs
abbrev pub SamePairs : Store → Store → Type 0
SamePairs (Numbers old) (Numbers new) = new.pairs ≡ old.pairs
SamePairs (Bytes old) (Bytes new) = new.pairs ≡ old.pairs
SamePairs (FrozenNumbers old) (Numbers new) = new.pairs ≡ (arc_value old).pairs
SamePairs (FrozenBytes old) (Bytes new) = new.pairs ≡ (arc_value old).pairs
SamePairs _ _ = ⊥

-- A closed handle is opened on a copy.
abbrev pub Copies : Option Store → Option Store → ℤ → Option Store → Type 0
Copies (Some from) None answer (Some to) = (answer ≡ YES) × SamePairs from to
Copies (Some from) None answer None = answer ≡ NO_MEMORY
Copies (Some from) (Some old) answer new = (answer ≡ MISFIT) × (new ≡ Some old)
Copies None old answer new = (answer ≡ MISFIT) × (new ≡ old)
