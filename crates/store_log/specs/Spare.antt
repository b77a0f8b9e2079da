-- The other file of a log that has two, which a compaction writes over.
use Rattle.std.specs.Prelude.{◌≡◌, ◌⊎◌, ℕ, ◌+◌, ◌<◌, ◌≤◌, List, length, take, drop, slice_index, Some}
use Rattle.store_frames.specs.Frame.{first_frame}
use Rattle.store_log.specs.Log.{IsHeadBatch}
use Rattle.store_log.specs.declared.head.Head.{Head}

-- this head is at the front of the file, under its seal
pub record IsHeaded (file : List ℕ) (head : Head) : Type 0 where
  pub batch : List ℕ
  pub rest : List ℕ
  pub found : first_frame file ≡ Some (batch, rest)
  pub is : IsHeadBatch batch head

-- what a crash may leave of a file that is written over: at most two bytes; a closed gate and then anything; or a head, whatever its gate and its length are
abbrev pub IsSpare : List ℕ → Type 0
IsSpare file = (length file ≤ 2) ⊎ ((slice_index file 0 ≡ 0) ⊎ ((head : Head) × IsHeadBatch (take 44 (drop 11 file)) head))

-- such a file, whose head is of an earlier generation if it has one
pub record IsOlder (generation : ℕ) (file : List ℕ) : Type 0 where
  pub spare : IsSpare file
  pub older : (head : Head) → IsHeaded file head → head.generation < generation

abbrev pub AreOlder : ℕ → (List ℕ → Type 0) → Type 0
AreOlder generation outcomes = (file : List ℕ) → outcomes file → IsOlder generation file

-- a closed gate is at the front
pub record IsShutOff (file : List ℕ) : Type 0 where
  pub some : 0 < length file
  pub shut : slice_index file 0 ≡ 0

abbrev pub next_head : Head → Head
next_head head = record head { generation = head.generation + 1 }

-- the first byte of the file, or that of an open gate if it has none
abbrev pub IsGateOf : List ℕ → ℕ → Type 0
IsGateOf file gate = ((length file ≡ 0) × (gate ≡ 215)) ⊎ ((0 < length file) × (gate ≡ slice_index file 0))
