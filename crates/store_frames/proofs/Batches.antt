-- Batches that are read from a file of frames.
use Rattle.std.proofs.Common.{◌≡◌, ℕ, zero, suc, ◌+◌, ◌^◌, ◌<◌, ◌≤◌, List, [], ◌∷◌, ◌++◌, length, replicate, slice_index, Option, Some, None, refl, sym, ◌∙◌, ap, subst, arith, append_assoc, length-append}
use Rattle.std.specs.Bool.{⊤}
use Rattle.std.proofs.lemmas.List.{append-nil}
use Rattle.store_frames.specs.Frame.{frame, frames, first_frame, Reads, AreShort, at_rest, going_on, first_batches, batches_of}
use Rattle.store_frames.proofs.Frames.{first_frame-frame, not_open}

pub reads_frames : (batches : List (List ℕ)) (tail : List ℕ) → AreShort batches → first_frame tail ≡ None → Reads batches (frames batches ++ tail)
reads_frames [] tail short none = none
reads_frames (batch ∷ batches) tail short none = (
  frames batches ++ tail,
  ap first_frame (append_assoc (frame batch) (frames batches) tail) ∙ first_frame-frame batch (frames batches ++ tail) short.0,
  reads_frames batches tail short.1 none,
)

pub frames-push : (batches : List (List ℕ)) (batch : List ℕ) → frames (batches ++ batch ∷ []) ≡ frames batches ++ frame batch
frames-push [] batch = append-nil (frame batch)
frames-push (first ∷ batches) batch = ap (λ (l : List ℕ). frame first ++ l) (frames-push batches batch) ∙ sym (append_assoc (frame first) (frames batches) (frame batch))

pub short-push : (batches : List (List ℕ)) (batch : List ℕ) → AreShort batches → length batch < 128 ^ 5 → AreShort (batches ++ batch ∷ [])
short-push [] batch short few = search
short-push (first ∷ batches) batch short few = (short.0, short-push batches batch short.1 few)

-- a closed gate ends the frames, whatever is behind it
pub reads_closed : (batches : List (List ℕ)) (rest : List ℕ) → AreShort batches → Reads batches (frames batches ++ 0 ∷ rest)
reads_closed batches rest short = reads_frames batches (0 ∷ rest) short (not_open 0 rest (omega arith))

pub reads_at_rest : (batches : List (List ℕ)) (room : ℕ) (junk : List ℕ) → AreShort batches → 0 < room → Reads batches (at_rest batches room junk)
reads_at_rest batches zero junk short some = absurd (omega arith)
reads_at_rest batches (suc room) junk short some = reads_closed batches (replicate room 0 ++ junk) short

-- the two parts of what a frame was found to be
abbrev pub behind : Option (List ℕ × List ℕ) → List ℕ
behind None = []
behind (Some p) = p.1

abbrev pub before : Option (List ℕ × List ℕ) → List ℕ
before None = []
before (Some p) = p.0

abbrev pub is_there : Option (List ℕ × List ℕ) → Type 0
is_there None = ⊤
is_there (Some p) = ⊥

pub none_some : (p : List ℕ × List ℕ) → None ≡ Some p → ⊥
none_some p e = subst is_there e search

-- a file has one list of batches
pub reads_once : (xs ys : List (List ℕ)) (file : List ℕ) → Reads xs file → Reads ys file → xs ≡ ys
reads_once [] [] file a b = refl
reads_once (x ∷ xs) (y ∷ ys) file a b =
    let same : Some (x, a.0) ≡ Some (y, b.0) = sym a.1 ∙ b.1 in
    let rest : a.0 ≡ b.0 = ap behind same in
    let more : xs ≡ ys = reads_once xs ys b.0 (subst (Reads xs) rest a.2) b.2 in
    ap (λ (l : List (List ℕ)). x ∷ l) more ∙ ap (λ (l : List ℕ). l ∷ ys) (ap before same)
reads_once [] (y ∷ ys) file a b = absurd (none_some (y, b.0) (sym a ∙ b.1))
reads_once (x ∷ xs) [] file a b = absurd (none_some (x, a.0) (sym b ∙ a.1))

pub length-zeros : (n : ℕ) → length (replicate {A = ℕ} n 0) ≡ n
length-zeros zero = refl
length-zeros (suc n) = ap suc (length-zeros n)

pub zeros_split : (n m k : ℕ) (rest : List ℕ) → k ≡ n + m → replicate k 0 ++ rest ≡ replicate n 0 ++ (replicate m 0 ++ rest)
zeros_split zero m k rest e = ap (λ j. replicate j 0 ++ rest) (omega (arith, e))
zeros_split (suc n) m zero rest e = absurd (omega (arith, e))
zeros_split (suc n) m (suc k) rest e = ap (λ (l : List ℕ). 0 ∷ l) (zeros_split n m k rest (omega (arith, e)))

pub zero_index : (n i : ℕ) (rest : List ℕ) → i < n → slice_index (replicate n 0 ++ rest) i ≡ 0
zero_index zero i rest lt = absurd (omega arith)
zero_index (suc n) zero rest lt = refl
zero_index (suc n) (suc i) rest lt = zero_index n i rest (omega arith)

first_batches_are : (k : ℕ) (batches : List (List ℕ)) (file : List ℕ) → length batches ≤ k → Reads batches file → first_batches k file ≡ batches
first_batches_are zero [] file le reads = refl
first_batches_are zero (batch ∷ batches) file le reads = absurd (omega (arith, le))
first_batches_are (suc k) [] file le reads = ap (going_on (λ rest. first_batches k rest)) reads
first_batches_are (suc k) (batch ∷ batches) file le reads =
    ap (going_on (λ rest. first_batches k rest)) reads.1 ∙ ap (λ (l : List (List ℕ)). batch ∷ l) (first_batches_are k batches reads.0 (omega (arith, le)) reads.2)

length-batches : (batches : List (List ℕ)) → length batches ≤ length (frames batches)
length-batches [] = omega arith
length-batches (batch ∷ batches) = omega (arith, length-append (frame batch) (frames batches), length-batches batches)

-- that list is what the function finds
pub batches_are : (batches : List (List ℕ)) (tail file : List ℕ) → file ≡ frames batches ++ tail → AreShort batches → first_frame tail ≡ None → batches_of file ≡ batches
batches_are batches tail file whole short none =
    first_batches_are (length file) batches file (omega (arith, ap length whole, length-append (frames batches) tail, length-batches batches))
    (subst (Reads batches) (sym whole) (reads_frames batches tail short none))

-- the batches behind some frames are read after those of the frames
pub reads_after : (batches more : List (List ℕ)) (rest : List ℕ) → AreShort batches → Reads more rest → Reads (batches ++ more) (frames batches ++ rest)
reads_after [] more rest short reads = reads
reads_after (batch ∷ batches) more rest short reads = (
  frames batches ++ rest,
  ap first_frame (append_assoc (frame batch) (frames batches) rest) ∙ first_frame-frame batch (frames batches ++ rest) short.0,
  reads_after batches more rest short.1 reads,
)
