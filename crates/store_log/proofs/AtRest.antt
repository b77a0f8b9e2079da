-- What writes to a file at rest may leave, and what they do.
use Rattle.std.proofs.Common.{◌≡◌, ℕ, ◌+◌, ◌-◌, ◌^◌, ◌<◌, List, [], ◌∷◌, ◌++◌, length, take, drop, replicate, sym, ◌∙◌, ap, subst, arith, length-append}
use Rattle.std.proofs.lemmas.List.{take_at}
use Rattle.sqlite_disk.specs.Disk.{Holds, Torn, Mixed, Follows, Only}
use Rattle.store_frames.specs.Frame.{frame, frames, Reads, at_rest, batches_of}
use Rattle.store_frames.proofs.Batches.{frames-push, reads_at_rest, reads_once}
use Rattle.store_frames.proofs.Spelled.{reads_own}
use Rattle.store_log.specs.Rest.{IsAtRest, LeavesThese, LeavesTheseOr}
use Rattle.store_log.specs.declared.frame_file.FrameFile.{FrameFile}
use Rattle.store_log.proofs.Steps.{rest_crash, behind_crash, once_crash, once_done, twice_crash, twice_done, room_done, room_failed}

module _ {D : Type 0} (seen : D → List ℕ) (may_leave : D → List ℕ → Type 0) (batches : List (List ℕ)) (file : FrameFile D) (r : IsAtRest seen may_leave batches file) where
  pub leaves_at_rest : LeavesThese batches (may_leave file.disk)
  leaves_at_rest = rest_crash batches (seen file.disk) r.junk file.room file.end r.is r.end r.short r.some (may_leave file.disk) r.durable

  -- the batches of the file are these
  pub at_rest_are : batches_of (seen file.disk) ≡ batches
  at_rest_are = reads_once (batches_of (seen file.disk)) batches (seen file.disk) (reads_own (seen file.disk)) (subst (Reads batches) (sym r.is) (reads_at_rest batches file.room r.junk r.short r.some))

  -- a write behind the gate
  pub leaves_behind : (n : ℕ) (new : List ℕ → Type 0) → Follows (Torn (file.end + 1) n) (may_leave file.disk) new → LeavesThese batches new
  leaves_behind n new = behind_crash batches (seen file.disk) r.junk file.room file.end r.is r.end r.short r.some n (may_leave file.disk) new r.durable

  -- zeros behind the gate
  pub zeros_done : (k : ℕ) (zeros new : List ℕ) → zeros ≡ replicate k 0 → Torn (file.end + 1) (length zeros) (seen file.disk) new → Holds new (file.end + 1) zeros → new ≡ at_rest batches (length zeros + 1) (drop (length (frames batches) + 1 + length zeros) new)
  zeros_done = room_done batches (seen file.disk) r.junk file.room file.end r.is r.end r.short r.some

  pub zeros_failed : (n : ℕ) (new : List ℕ) → Torn (file.end + 1) n (seen file.disk) new → new ≡ at_rest batches 1 (drop (length (frames batches) + 1) new)
  zeros_failed = room_failed batches (seen file.disk) r.junk file.room file.end r.is r.end r.short r.some

  module _ (batch bytes : List ℕ) (few : length batch < 128 ^ 5) where
    -- one write over zeros
    module _ (is : bytes ≡ frame batch) (fits : length bytes < file.room) where
      pub leaves_once : (new : List ℕ → Type 0) → Follows (Mixed file.end bytes) (may_leave file.disk) new → LeavesTheseOr batches batch new
      leaves_once new = once_crash batches (seen file.disk) r.junk file.room file.end r.is r.end r.short r.some batch bytes few is fits (may_leave file.disk) new r.durable

      pub done_once : (new : List ℕ) → Torn file.end (length bytes) (seen file.disk) new → Holds new file.end bytes → new ≡ at_rest (batches ++ batch ∷ []) (file.room - length bytes) r.junk
      done_once = once_done batches (seen file.disk) r.junk file.room file.end r.is r.end r.short r.some batch bytes few is fits

    -- a write behind the gate, and then the gate
    module _ (is : bytes ≡ drop 1 (frame batch) ++ 0 ∷ []) (first : List ℕ) (torn : Torn (file.end + 1) (length bytes) (seen file.disk) first) (holds : Holds first (file.end + 1) bytes) where
      pub leaves_twice : (old new : List ℕ → Type 0) → Only first old → Follows (Torn file.end 1) old new → LeavesTheseOr batches batch new
      leaves_twice = twice_crash batches (seen file.disk) r.junk file.room file.end r.is r.end r.short r.some batch bytes few is first torn holds

      pub done_twice : (new : List ℕ) → Torn file.end 1 first new → Holds new file.end (215 ∷ []) → new ≡ at_rest (batches ++ batch ∷ []) 1 (drop (length (frames batches) + 1 + length bytes) first)
      done_twice = twice_done batches (seen file.disk) r.junk file.room file.end r.is r.end r.short r.some batch bytes few is first torn holds

  -- where the frames end with one more
  pub end_more : (batch : List ℕ) → file.end + length (frame batch) ≡ length (frames (batches ++ batch ∷ []))
  end_more batch = omega (arith, r.end, ap length (frames-push batches batch), length-append (frames batches) (frame batch))

-- a frame with a closed gate behind it, without that gate, and its batch
pub framed : (bytes batch : List ℕ) → bytes ≡ frame batch ++ 0 ∷ [] → take (length bytes - 1) bytes ≡ frame batch
framed bytes batch is =
    let n = length bytes - 1 in
    ap (λ (l : List ℕ). take n l) is ∙ take_at (frame batch) (0 ∷ []) n (omega (arith, ap length is, length-append (frame batch) (0 ∷ [])))

pub unframed : (bytes batch : List ℕ) → bytes ≡ frame batch ++ 0 ∷ [] → drop 11 (take (length bytes - 1) bytes) ≡ batch
unframed bytes batch is = ap (λ (l : List ℕ). drop 11 l) (framed bytes batch is)
