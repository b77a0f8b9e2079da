-- Frames: a batch as bytes, so that a crash which leaves some of them zero is seen.
use Rattle.std.specs.Prelude.{◌≡◌, ◌⊎◌, ℕ, zero, suc, ◌+◌, ◌*◌, ◌/◌, ◌%◌, ◌^◌, ◌<◌, ◌==◌, nat_le, Bool, true, ◌&&◌, if◌then◌else◌, List, [], ◌∷◌, ◌++◌, length, take, drop, replicate, slice_index, Option, Some, None}
use Rattle.std.specs.List.{AllByRecursion}

-- how many bytes are zero
abbrev pub zeros : List ℕ → ℕ
zeros [] = 0
zeros (b ∷ bytes) = (if b == 0 then 1 else 0) + zeros bytes

-- k bytes for a number below 128 ^ k, the lowest digit first, none of them below 128
abbrev pub marked : ℕ → ℕ → List ℕ
marked zero n = []
marked (suc k) n = (128 + n % 128) ∷ marked k (n / 128)

abbrev pub unmarked : List ℕ → ℕ
unmarked [] = 0
unmarked (b ∷ bytes) = b % 128 + 128 * unmarked bytes

abbrev pub are_marked : List ℕ → Bool
are_marked [] = true
are_marked (b ∷ bytes) = nat_le 128 b && are_marked bytes

-- the frame of a batch: an open gate, the length, the number of zeros, and the batch
abbrev pub frame : List ℕ → List ℕ
frame batch = 215 ∷ marked 5 (length batch) ++ marked 5 (zeros batch) ++ batch

-- n bytes of which z are zero, with what is behind them
abbrev pub counted : ℕ → ℕ → List ℕ → Option (List ℕ × List ℕ)
counted n z rest = if nat_le n (length rest) && (zeros (take n rest) == z) then Some (take n rest, drop n rest) else None

-- the batch of the frame at the front, with what is behind it
abbrev pub first_frame : List ℕ → Option (List ℕ × List ℕ)
first_frame file =
    if nat_le 11 (length file) && (slice_index file 0 == 215) && are_marked (take 10 (drop 1 file))
    then counted (unmarked (take 5 (drop 1 file))) (unmarked (take 5 (drop 6 file))) (drop 11 file)
    else None

-- the frames of these batches are at the front, and no frame is behind them
abbrev pub Reads : List (List ℕ) → List ℕ → Type 0
Reads [] file = first_frame file ≡ None
Reads (batch ∷ batches) file = (rest : List ℕ) × (first_frame file ≡ Some (batch, rest)) × Reads batches rest

abbrev pub frames : List (List ℕ) → List ℕ
frames [] = []
frames (batch ∷ batches) = frame batch ++ frames batches

-- a header can describe the length of each
abbrev pub AreShort : List (List ℕ) → Type 0
AreShort batches = AllByRecursion (λ batch. length batch < 128 ^ 5) batches

-- frames, then so many zeros, of which the first is the closed gate of the next frame, and then whatever an earlier crash left
abbrev pub at_rest : List (List ℕ) → ℕ → List ℕ → List ℕ
at_rest batches room junk = frames batches ++ (replicate room 0 ++ junk)

-- the file has the batches, and one more or not
abbrev pub IsBeforeOrAfter : List (List ℕ) → List ℕ → List ℕ → Type 0
IsBeforeOrAfter batches batch file = Reads batches file ⊎ Reads (batches ++ batch ∷ []) file

-- the frames of a file, and what is behind the last one
pub record Scanned (bytes : List ℕ) (end : ℕ) : Type 0 where
  pub batches : List (List ℕ)
  pub tail : List ℕ
  pub whole : bytes ≡ frames batches ++ tail
  pub ends : end ≡ length (frames batches)
  pub none : first_frame tail ≡ None
  pub short : AreShort batches

-- some frames are before the rest
pub record Begun (bytes rest : List ℕ) : Type 0 where
  pub batches : List (List ℕ)
  pub whole : bytes ≡ frames batches ++ rest
  pub short : AreShort batches

-- whatever byte is at its front, no frame is
abbrev pub NoGateOpens : List ℕ → Type 0
NoGateOpens tail = (gate : ℕ) → first_frame (gate ∷ drop 1 tail) ≡ None

abbrev pub going_on : (List ℕ → List (List ℕ)) → Option (List ℕ × List ℕ) → List (List ℕ)
going_on next None = []
going_on next (Some found) = found.0 ∷ next found.1

-- the batches of the first k frames
abbrev pub first_batches : ℕ → List ℕ → List (List ℕ)
first_batches zero file = []
first_batches (suc k) file = going_on (λ rest. first_batches k rest) (first_frame file)

-- the batches of a file, whatever a crash made of it
abbrev pub batches_of : List ℕ → List (List ℕ)
batches_of file = first_batches (length file) file
