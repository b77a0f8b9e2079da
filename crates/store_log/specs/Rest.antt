-- A file of frames at rest, all of it on the disk.
use Rattle.std.specs.Prelude.{◌≡◌, ℕ, ◌<◌, List, ◌++◌, length, None}
use Rattle.sqlite_disk.specs.Disk.{Only}
use Rattle.store_frames.specs.Frame.{frames, first_frame, Reads, IsBeforeOrAfter, AreShort, at_rest, NoGateOpens}
use Rattle.store_log.specs.declared.frame_file.FrameFile.{FrameFile}

-- the file has these batches, and the next one can be appended
pub record IsAtRest {D : Type 0} (seen : D → List ℕ) (may_leave : D → List ℕ → Type 0) (batches : List (List ℕ)) (file : FrameFile D) : Type 0 where
  pub junk : List ℕ
  pub is : seen file.disk ≡ at_rest batches file.room junk
  pub end : file.end ≡ length (frames batches)
  pub some : 0 < file.room
  pub short : AreShort batches
  pub durable : Only (seen file.disk) (may_leave file.disk)

-- a crash leaves a file that has these batches
abbrev pub LeavesThese : List (List ℕ) → (List ℕ → Type 0) → Type 0
LeavesThese batches outcomes = (file : List ℕ) → outcomes file → Reads batches file

-- a crash leaves a file that has these batches, or these and one more
abbrev pub LeavesTheseOr : List (List ℕ) → List ℕ → (List ℕ → Type 0) → Type 0
LeavesTheseOr batches batch outcomes = (file : List ℕ) → outcomes file → IsBeforeOrAfter batches batch file

-- frames and this tail, all of it on the disk; the frames end here
pub record Ends {D : Type 0} (seen : D → List ℕ) (may_leave : D → List ℕ → Type 0) (batches : List (List ℕ)) (disk : D) (tail : List ℕ) (end : ℕ) : Type 0 where
  pub file : seen disk ≡ frames batches ++ tail
  pub ends : end ≡ length (frames batches)
  pub none : first_frame tail ≡ None
  pub short : AreShort batches
  pub durable : Only (seen disk) (may_leave disk)

-- the same with some tail, of which no gate makes a frame
pub record CanShut {D : Type 0} (seen : D → List ℕ) (may_leave : D → List ℕ → Type 0) (batches : List (List ℕ)) (disk : D) (end : ℕ) : Type 0 where
  pub tail : List ℕ
  pub opens : NoGateOpens tail
  pub rests : Ends seen may_leave batches disk tail end

-- closed gates are at the end
pub record IsShut {D : Type 0} (seen : D → List ℕ) (may_leave : D → List ℕ → Type 0) (batches : List (List ℕ)) (disk : D) (room end : ℕ) : Type 0 where
  pub junk : List ℕ
  pub file : seen disk ≡ at_rest batches room junk
  pub ends : end ≡ length (frames batches)
  pub some : 0 < room
  pub short : AreShort batches
  pub durable : Only (seen disk) (may_leave disk)
