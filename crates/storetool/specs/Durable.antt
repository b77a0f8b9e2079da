-- What the files of a store of numbers keep, whatever happens.
use Rattle.std.specs.Prelude.{◌≡◌, ◌⊎◌, ℕ, Bool, false, List, [], ◌++◌, Option}
use Rattle.std.specs.Io.KnownBytes.{Appends}
use Rattle.std.specs.Int.{w64}
use Rattle.std.specs.Ordering.{nat_cmp}
use Rattle.store_codec.specs.Numbers.{number_at}
use Rattle.store_codec.specs.Records.{record_at}
use Rattle.store_pair.specs.Pair.{AreClean, Held, MayHold}
use Rattle.store_pair.specs.Pair.{Pair}
use Rattle.tree_store.specs.Store.{HasSaved, StandFor}
use Rattle.store_pair.specs.declared.files.Files.{Files}

-- the batches in the files lead to these pairs
abbrev pub IsSaved : {D : Type 0} → Pair D → List (ℕ × ℕ) → Type 0
IsSaved saved pairs = HasSaved nat_cmp (λ n. n) (λ n. n) (record_at (number_at w64 8) (number_at w64 8)) saved pairs

-- files stand for these pairs
abbrev pub Stands : Held → List (ℕ × ℕ) → Type 0
Stands held pairs = StandFor nat_cmp (λ n. n) (λ n. n) (record_at (number_at w64 8) (number_at w64 8)) (4, 4) held pairs

module _ {D : Type 0} (is_clean : D → Bool) (may_leave : D → List ℕ → Type 0) where
  -- the files have these pairs, and a crash leaves these
  pub record IsDurable (saved : Pair D) (pairs : List (ℕ × ℕ)) : Type 0 where
    pub runs : saved.stopped ≡ false
    pub is_saved : AreClean is_clean saved.files → IsSaved saved pairs
    pub leaves : AreClean is_clean saved.files → (left : Held) → MayHold may_leave saved.files left → Stands left pairs

  -- A commit or the writing of its answers broke off. A crash leaves the durable pairs or those of now, and those of now if an answer was written.
  pub record BreaksOff (durable now : List (ℕ × ℕ)) (files : Files D) (answers : List ℕ) (contents contents' : Option (List ℕ)) : Type 0 where
    pub part : List ℕ
    pub rest : List ℕ
    pub wrote : Appends contents contents' part
    pub is : answers ≡ part ++ rest
    pub leaves : AreClean is_clean files → (left : Held) → MayHold may_leave files left → (Stands left durable × (part ≡ [])) ⊎ Stands left now
