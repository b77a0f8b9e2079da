-- Frames whose seals were tested, one after another.
use Rattle.std.proofs.Common.{◌≡◌, ℕ, List, [], ◌∷◌, ◌++◌, Some, None, refl, sym, subst}
use Rattle.store_frames.specs.Frame.{first_frame, Reads, Begun, batches_of}
use Rattle.store_frames.specs.Seal.{sealed, text_of, AreSealed}
use Rattle.store_frames.proofs.Batches.{batches_are, reads_after, reads_once}
use Rattle.store_frames.proofs.Spelled.{AreBytes, begun_more, reads_own}
use Rattle.store_frames.proofs.Seals.{sealed-push, sealed_inside}

-- some sealed frames are before the rest
pub record BegunSealed (key : ℕ) (bytes rest : List ℕ) : Type 0 where
  pub begun : Begun bytes rest
  pub sealed : AreSealed key begun.batches

pub none_tested : (key : ℕ) (bytes : List ℕ) → BegunSealed key bytes bytes
none_tested key bytes = record { begun = record { batches = []; whole = refl; short = search }; sealed = search }

pub tested_more : (key : ℕ) (bytes rest batch behind : List ℕ) → BegunSealed key bytes rest → AreBytes rest → first_frame rest ≡ Some (batch, behind) → batch ≡ sealed key (text_of batch) → BegunSealed key bytes behind
tested_more key bytes rest batch behind tested are found is = record {
  begun = begun_more bytes rest batch behind tested.begun are found;
  sealed = sealed-push key tested.begun.batches batch tested.sealed is;
}

pub all_tested : (key : ℕ) (bytes rest : List ℕ) → BegunSealed key bytes rest → first_frame rest ≡ None → AreSealed key (batches_of bytes)
all_tested key bytes rest tested none =
    subst (AreSealed key) (sym (batches_are tested.begun.batches rest bytes tested.begun.whole tested.begun.short none)) tested.sealed

-- a frame whose seal doesn't fit is one of the file's
pub one_damaged : (key : ℕ) (bytes rest batch behind : List ℕ) → Begun bytes rest → first_frame rest ≡ Some (batch, behind) → (batch ≡ sealed key (text_of batch) → ⊥) → AreSealed key (batches_of bytes) → ⊥
one_damaged key bytes rest batch behind begun found other all =
    let more : Reads (batch ∷ batches_of behind) rest = (behind, found, reads_own behind) in
    let reads : Reads (begun.batches ++ batch ∷ batches_of behind) bytes = subst (Reads (begun.batches ++ batch ∷ batches_of behind)) (sym begun.whole) (reads_after begun.batches (batch ∷ batches_of behind) rest begun.short more) in
    let are : batches_of bytes ≡ begun.batches ++ batch ∷ batches_of behind = reads_once (batches_of bytes) (begun.batches ++ batch ∷ batches_of behind) bytes (reads_own bytes) reads in
    other (sealed_inside key begun.batches batch (batches_of behind) (subst (AreSealed key) are all))
