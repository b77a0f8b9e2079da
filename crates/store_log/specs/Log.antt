-- A log: a head and texts, each in a frame and under a seal.
use Rattle.std.specs.Prelude.{◌≡◌, ◌≢◌, ◌⊎◌, ℕ, ◌<◌, ◌≤◌, ◌==◌, Bool, IsTrue, List, ◌∷◌, length, drop, map, slice_index, Some}
use Rattle.store_frames.specs.Frame.{Reads, Scanned, first_frame, frames, batches_of}
use Rattle.store_frames.specs.Seal.{sealed, text_of}
use Rattle.store_log.specs.Head.{head_at}
use Rattle.store_log.specs.Rest.{IsAtRest}
use Rattle.store_log.specs.declared.head.Head.{Head}
use Rattle.store_log.specs.declared.frame_file.FrameFile.{FrameFile}

-- what contracts see of a log
pub record Contents (D : Type 0) : Type 0 where
  pub disk : D
  pub head : Head
  -- the texts, the oldest first
  pub texts : List (List ℕ)
  -- whether an earlier write or sync failed
  pub stopped : Bool

-- the texts behind the head of a file, without their seals
abbrev pub texts_of : List ℕ → List (List ℕ)
texts_of file = map text_of (drop 1 (batches_of file))

-- where the frames of a file end
abbrev pub end_of : List ℕ → ℕ
end_of file = length (frames (batches_of file))

-- the file has this head and these texts, each under a seal
pub record HasTexts (head : Head) (texts : List (List ℕ)) (file : List ℕ) : Type 0 where
  pub first : List ℕ
  pub is : head_at first ≡ Some head
  pub reads : Reads (sealed head.key first ∷ map (sealed head.key) texts) file

-- a crash leaves a file with this head and these texts
abbrev pub LeavesTexts : Head → List (List ℕ) → (List ℕ → Type 0) → Type 0
LeavesTexts head texts outcomes = (file : List ℕ) → outcomes file → HasTexts head texts file

abbrev pub contents_of : {D : Type 0} → (D → List ℕ) → Head → FrameFile D → Contents D
contents_of seen head file = record { disk = file.disk; head = head; texts = texts_of (seen file.disk); stopped = (file.room == 0) }

-- the file is at rest, and each of its batches is under a seal
pub record IsKept {D : Type 0} (seen : D → List ℕ) (may_leave : D → List ℕ → Type 0) (head : Head) (file : FrameFile D) : Type 0 where
  pub first : List ℕ
  pub is : head_at first ≡ Some head
  pub rest : IsAtRest seen may_leave (batches_of (seen file.disk)) file
  pub sealed_all : batches_of (seen file.disk) ≡ sealed head.key first ∷ map (sealed head.key) (texts_of (seen file.disk))

-- so is the file of a log that isn't stopped
pub record IsLog {D : Type 0} (is_usable is_clean : D → Bool) (seen : D → List ℕ) (may_leave : D → List ℕ → Type 0) (head : Head) (file : FrameFile D) : Type 0 where
  pub usable : 0 < file.room → IsTrue (is_usable file.disk)
  pub kept : 0 < file.room → IsTrue (is_clean file.disk) → IsKept seen may_leave head file

-- all that an examination finds: a head, texts under seals, and where the frames end
pub record Finds (file : List ℕ) (head : Head) (end : ℕ) : Type 0 where
  pub first : List ℕ
  pub is : head_at first ≡ Some head
  pub sealed_all : batches_of file ≡ sealed head.key first ∷ map (sealed head.key) (texts_of file)
  pub scanned : Scanned file end

-- a batch is that of a head, under its seal
pub record IsHeadBatch (batch : List ℕ) (head : Head) : Type 0 where
  pub first : List ℕ
  pub is : head_at first ≡ Some head
  pub sealed_first : batch ≡ sealed head.key first

-- a head is at the front of the file, under its seal
pub record HasHead (file : List ℕ) : Type 0 where
  pub head : Head
  pub batch : List ℕ
  pub rest : List ℕ
  pub found : first_frame file ≡ Some (batch, rest)
  pub is : IsHeadBatch batch head

-- what a crash may leave of a file whose head is being made, which has at most 56 bytes: at most one byte; a closed gate and then anything; or a head whose gate isn't open
abbrev pub IsBlank : List ℕ → Type 0
IsBlank file = (length file ≤ 1) ⊎ ((length file ≤ 56) × (slice_index file 0 ≢ 215) × ((slice_index file 0 ≡ 0) ⊎ HasHead (215 ∷ drop 1 file)))

-- the same, or the head with its gate open
abbrev pub IsFresh : List ℕ → Type 0
IsFresh file = IsBlank file ⊎ ((length file ≤ 56) × HasHead file)

-- a closed gate is at the front of at most 56 bytes
pub record IsClosed (file : List ℕ) : Type 0 where
  pub some : 0 < length file
  pub few : length file ≤ 56
  pub shut : slice_index file 0 ≡ 0

-- a disk reads as before, and a crash leaves no more than before
pub record IsUntouched {D : Type 0} (seen : D → List ℕ) (may_leave : D → List ℕ → Type 0) (old new : D) : Type 0 where
  pub same : seen new ≡ seen old
  pub no_more : (file : List ℕ) → may_leave new file → may_leave old file
