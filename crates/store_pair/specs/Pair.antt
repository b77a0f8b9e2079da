-- Two files, of which the log of the later generation counts.
use Rattle.std.specs.Prelude.{◌≡◌, ◌⊎◌, ℕ, Bool, true, false, IsTrue, List}
use Rattle.sqlite_disk.specs.Disk.{MoreFaults, Only}
use Rattle.store_log.specs.Log.{Contents, HasTexts, IsBlank, IsFresh, IsUntouched, LeavesTexts, end_of}
use Rattle.store_log.specs.Spare.{AreOlder, IsHeaded, IsOlder}
use Rattle.store_log.specs.declared.head.Head.{Head}
use Rattle.store_pair.specs.declared.files.Files.{Files}

-- the bytes of each file
pub record Held : Type 0 where
  pub first : List ℕ
  pub second : List ℕ

module _ {D : Type 0} where
  -- what reads return
  abbrev pub held_in : (D → List ℕ) → Files D → Held
  held_in seen files = record { first = seen files.first; second = seen files.second }

  -- a crash may leave the files like this
  abbrev pub MayHold : (D → List ℕ → Type 0) → Files D → Held → Type 0
  MayHold may_leave files left = may_leave files.first left.first × may_leave files.second left.second

  -- no sync of a file has failed
  abbrev pub AreUsable : (D → Bool) → Files D → Type 0
  AreUsable is_usable files = IsTrue (is_usable files.first) × IsTrue (is_usable files.second)

  -- no wrong answer of a file was taken as true
  abbrev pub AreClean : (D → Bool) → Files D → Type 0
  AreClean is_clean files = IsTrue (is_clean files.first) × IsTrue (is_clean files.second)

  -- all that reads return is on the disk, as it is after a restart
  abbrev pub AreSettled : (D → List ℕ) → (D → List ℕ → Type 0) → Files D → Type 0
  AreSettled seen may_leave files = Only (seen files.first) (may_leave files.first) × Only (seen files.second) (may_leave files.second)

  -- the files read as before, and a crash leaves no more than before
  abbrev pub AreUntouched : (D → List ℕ) → (D → List ℕ → Type 0) → Files D → Files D → Type 0
  AreUntouched seen may_leave old new = IsUntouched seen may_leave old.first new.first × IsUntouched seen may_leave old.second new.second

  -- a call of a file failed
  abbrev pub HaveFailed : (D → ℕ) → Files D → Files D → Type 0
  HaveFailed faults old new = MoreFaults (faults old.first) (faults new.first) ⊎ MoreFaults (faults old.second) (faults new.second)

  -- the files, where the second one counts or the first one does
  abbrev pub files_in : Bool → D → D → Files D
  files_in true disk spare = record { first = spare; second = disk }
  files_in false disk spare = record { first = disk; second = spare }

abbrev pub counted_in : Bool → Held → List ℕ
counted_in true held = held.second
counted_in false held = held.first

abbrev pub other_in : Bool → Held → List ℕ
other_in true held = held.first
other_in false held = held.second

-- so many bytes of one of the files are in use
abbrev pub AreUsed : Held → ℕ → Type 0
AreUsed held n = (n ≡ end_of held.first) ⊎ (n ≡ end_of held.second)

-- no log is in the files: they are empty, or a crash left them while a log was made
abbrev pub AreBlank : Held → Type 0
AreBlank held = IsBlank held.first × IsBlank held.second

-- the same, or a log without a text
abbrev pub AreFresh : Held → Type 0
AreFresh held = IsFresh held.first × IsBlank held.second

-- a head is at the front of a file, and the other file is older
pub record IsCounted (one other : List ℕ) : Type 0 where
  pub head : Head
  pub headed : IsHeaded one head
  pub older : IsOlder head.generation other

-- a file has this head and these texts, and the other file is older
pub record Counts (head : Head) (texts : List (List ℕ)) (one other : List ℕ) : Type 0 where
  pub has : HasTexts head texts one
  pub older : IsOlder head.generation other

-- one of the files has this head and these texts, and the other is older
abbrev pub HavePair : Head → List (List ℕ) → Held → Type 0
HavePair head texts held = Counts head texts held.first held.second ⊎ Counts head texts held.second held.first

-- a crash leaves such files
abbrev pub LeavePair : {D : Type 0} → (D → List ℕ → Type 0) → Head → List (List ℕ) → Files D → Type 0
LeavePair may_leave head texts files = (left : Held) → MayHold may_leave files left → HavePair head texts left

-- what contracts see of two files
pub record Pair (D : Type 0) : Type 0 where
  pub files : Files D
  pub head : Head
  -- the texts, the oldest first
  pub texts : List (List ℕ)
  -- whether an earlier write or sync failed
  pub stopped : Bool

abbrev pub pair_of : {D : Type 0} → Bool → Contents D → D → Pair D
pair_of swapped log spare = record { files = files_in swapped log.disk spare; head = log.head; texts = log.texts; stopped = log.stopped }

-- the log is on the disk, and the other file is older, unless the log is stopped
pub record IsPair {D : Type 0} (is_clean : D → Bool) (may_leave : D → List ℕ → Type 0) (log : Contents D) (spare : D) : Type 0 where
  pub leaves : log.stopped ≡ false → IsTrue (is_clean log.disk) → LeavesTexts log.head log.texts (may_leave log.disk)
  pub older : log.stopped ≡ false → IsTrue (is_clean log.disk) → IsTrue (is_clean spare) → AreOlder log.head.generation (may_leave spare)

-- files that were read, in the order in which they count
pub record AreOrdered {D : Type 0} (is_clean is_usable : D → Bool) (seen : D → List ℕ) (may_leave : D → List ℕ → Type 0) (files : Files D) (swapped : Bool) (disk spare : D) : Type 0 where
  pub untouched : AreUntouched seen may_leave files (files_in swapped disk spare)
  pub usable : AreUsable is_usable (files_in swapped disk spare)
  pub clean : AreClean is_clean (files_in swapped disk spare) → AreClean is_clean files
  pub counted : AreClean is_clean (files_in swapped disk spare) → IsCounted (counted_in swapped (held_in seen files)) (other_in swapped (held_in seen files))
