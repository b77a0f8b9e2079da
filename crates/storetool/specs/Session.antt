-- A run over lines: what was read, written and stored so far. `Run` says which answers lines have, and which pairs they lead to.
use Rattle.std.specs.Prelude.{◌≡◌, ◌⊎◌, ⊤, ℕ, Bool, List, [], ◌∷◌, ◌++◌, Option, Result, Ok, Err, OnOk}
use Rattle.std.specs.List.{AllByRecursion}
use Rattle.std.specs.Io.KnownBytes.{Appends, Consumes, IsAtEnd}
use Rattle.tree_lines.specs.Spelling.{HasLines, IsLine, clip, last_line, text_of}
use Rattle.store_pair.specs.Pair.{AreClean, Held, MayHold}
use Rattle.tree_store.specs.Store.{Store}
use Rattle.storetool.specs.Durable.{IsDurable, Stands}

-- These are the first lines of a text. A line feed is behind each; behind the last one may be the end of the input instead.
pub record AreFirst (at_end : Type 0) (lines : List (List ℕ)) (text : List ℕ) : Type 0 where
  pub each : AllByRecursion IsLine lines
  pub are : ((behind : List ℕ) × (text ≡ text_of lines ++ behind)) ⊎ (at_end × (text ++ 10 ∷ [] ≡ text_of lines))

-- Files stand for the pairs after a front of the lines that were read, and all that was written are answers to these lines.
pub record Survives (Run : List (ℕ × ℕ) → List (List ℕ) → List (List ℕ) → List (ℕ × ℕ) → Type 0) (at_end : Type 0) (old : List (ℕ × ℕ)) (read written : List ℕ) (left : Held) : Type 0 where
  pub lines : List (List ℕ)
  pub answers : List (List ℕ)
  pub pairs : List (ℕ × ℕ)
  pub unseen : List ℕ
  pub first : AreFirst at_end lines read
  pub script : Run old lines answers pairs
  pub seen : text_of answers ≡ written ++ unseen
  pub stands : Stands left pairs

module _ {D : Type 0} (Run : List (ℕ × ℕ) → List (List ℕ) → List (List ℕ) → List (ℕ × ℕ) → Type 0) (is_clean : D → Bool) (may_leave : D → List ℕ → Type 0) where
  -- The lines that were read and ended are committed and answered, or applied, and their answers wait. The last line is begun.
  pub record Session (old : List (ℕ × ℕ)) (read written waiting : List ℕ) (line : Option (List ℕ)) (store : Store ℕ ℕ D) : Type 0 where
    pub safe : List (List ℕ)
    pub said : List (List ℕ)
    pub later : List (List ℕ)
    pub unsaid : List (List ℕ)
    pub rest : List ℕ
    pub durable : List (ℕ × ℕ)
    pub lines : HasLines read (safe ++ later) rest
    pub kept : line ≡ clip rest
    pub committed : Run old safe said durable
    pub wrote : written ≡ text_of said
    pub applied : Run durable later unsaid store.pairs
    pub waits : waiting ≡ text_of unsaid
    pub is_durable : IsDurable is_clean may_leave store.saved durable

  -- Whatever a crash leaves in the files of a store has what was written.
  abbrev pub Outlives : Type 0 → List (ℕ × ℕ) → List ℕ → List ℕ → Store ℕ ℕ D → Type 0
  Outlives at_end old read written store =
      AreClean is_clean store.saved.files → (left : Held) → MayHold may_leave store.saved.files left → Survives Run at_end old read written left

  -- More was written, and a session goes on. After `Err` nothing more is known of it than what a crash leaves.
  abbrev pub GoesOn : {T E : Type 0} → List (ℕ × ℕ) → List ℕ → List ℕ → List ℕ → Option (List ℕ) → Store ℕ ℕ D → Option (List ℕ) → Option (List ℕ) → Result T E → Type 0
  GoesOn old read written waiting line store contents contents' (Ok _) = (more : List ℕ) × Appends contents contents' more × Session old read (written ++ more) waiting line store
  GoesOn old read written waiting line store contents contents' (Err _) = (more : List ℕ) × Appends contents contents' more × Outlives ⊥ old read (written ++ more) store

  -- the effect of bytes on any session
  abbrev pub Steps : {T E : Type 0} → List ℕ → List ℕ → Option (List ℕ) → Store ℕ ℕ D → List ℕ → Option (List ℕ) → Store ℕ ℕ D → Option (List ℕ) → Option (List ℕ) → Result T E → Type 0
  Steps bytes waiting line store waiting' line' store' contents contents' result =
      (old : List (ℕ × ℕ)) (read written : List ℕ) → Session old read written waiting line store → GoesOn old (read ++ bytes) written waiting' line' store' contents contents' result

  -- All lines that were read are committed and answered. The last one is a line too, unless it is empty.
  pub record IsServed (old : List (ℕ × ℕ)) (read written : List ℕ) (store : Store ℕ ℕ D) : Type 0 where
    pub ended : List (List ℕ)
    pub rest : List ℕ
    pub answers : List (List ℕ)
    pub lines : HasLines read ended rest
    pub script : Run old (ended ++ last_line rest) answers store.pairs
    pub wrote : written ≡ text_of answers
    pub is_durable : IsDurable is_clean may_leave store.saved store.pairs

  -- More was written, and the input is at its end.
  abbrev pub ComesToEnd : {T E : Type 0} → List (ℕ × ℕ) → List ℕ → List ℕ → Store ℕ ℕ D → Option (List ℕ) → Option (List ℕ) → Result T E → Type 0
  ComesToEnd old read written store contents contents' (Ok _) = (more : List ℕ) × Appends contents contents' more × IsServed old read (written ++ more) store
  ComesToEnd old read written store contents contents' (Err _) = (more : List ℕ) × Appends contents contents' more × Outlives ⊤ old read (written ++ more) store

  -- the end of any session
  abbrev pub Ends : {T E : Type 0} → List ℕ → Option (List ℕ) → Store ℕ ℕ D → Store ℕ ℕ D → Option (List ℕ) → Option (List ℕ) → Result T E → Type 0
  Ends waiting line store store' contents contents' result =
      (old : List (ℕ × ℕ)) (read written : List ℕ) → Session old read written waiting line store → ComesToEnd old read written store' contents contents' result

  -- What a run over an input came to.
  -- Ok: the input is at its end, and all lines were answered.
  -- Err: whatever a crash leaves has what was answered.
  abbrev pub Serves : {T E : Type 0} → Store ℕ ℕ D → Store ℕ ℕ D → Option (List ℕ) → Option (List ℕ) → Option (List ℕ) → Option (List ℕ) → Result T E → Type 0
  Serves store store' remaining remaining' contents contents' (Ok _) =
      (read written : List ℕ) × Consumes remaining remaining' read × Appends contents contents' written × IsAtEnd remaining' × IsServed store.pairs read written store'
  Serves store store' remaining remaining' contents contents' (Err _) =
      (read written : List ℕ) × Consumes remaining remaining' read × Appends contents contents' written × Outlives (IsAtEnd remaining') store.pairs read written store'

  -- Some of the bytes were taken, and after `Ok` all of them.
  abbrev pub Takes : {T E : Type 0} → List ℕ → List ℕ → Option (List ℕ) → Store ℕ ℕ D → List ℕ → Option (List ℕ) → Store ℕ ℕ D → Option (List ℕ) → Option (List ℕ) → Result T E → Type 0
  Takes {T} {E} bytes waiting line store waiting' line' store' contents contents' result =
      (taken left : List ℕ) × (bytes ≡ taken ++ left) × Steps {T = Unit {0}} {E = E} taken waiting line store waiting' line' store' contents contents' (Ok tt) × OnOk result (left ≡ [])
