-- What is found of a file by its bytes.
use Rattle.std.proofs.Common.{◌≡◌, ◌≢◌, ◌⊎◌, inl, inr, ℕ, suc, ◌<◌, ◌≤◌, List, ◌∷◌, length, drop, map, true, Option, Some, None, refl, sym, ◌∙◌, ap, subst, arith}
use Rattle.std.specs.Prelude.{IfSome, IfNone, is_some}
use Rattle.store_frames.specs.Frame.{Scanned, first_frame, frames, batches_of}
use Rattle.store_frames.specs.Seal.{sealed, text_of, AreSealed}
use Rattle.store_frames.proofs.Batches.{batches_are, before, reads_once}
use Rattle.store_frames.proofs.Seals.{text_of-sealed, sealed_itself}
use Rattle.store_frames.proofs.Spelled.{reads_own, found_gate}
use Rattle.store_log.specs.Head.{HasKinds, head_at}
use Rattle.store_log.specs.Log.{Finds, HasHead, HasTexts, IsBlank, IsHeadBatch, end_of, texts_of}
use Rattle.store_log.specs.declared.head.Head.{Head}
use Rattle.store_log.proofs.Texts.{all_sealed, sealed_all}

pub no_frame : (file : List ℕ) → first_frame file ≡ None → (head : Head) (texts : List (List ℕ)) → HasTexts head texts file → ⊥
no_frame file none head texts h = let e : first_frame file ≡ Some (sealed head.key h.first, h.reads.0) = h.reads.1 in cc

-- a file with a frame at its front is not blank
pub not_blank : (file batch rest : List ℕ) → first_frame file ≡ Some (batch, rest) → IsBlank file → ⊥
not_blank file batch rest found (inl few) = absurd (omega (arith, few, (found_gate file batch rest found).0))
not_blank file batch rest found (inr blank) = blank.1 (found_gate file batch rest found).1

module _ (file batch rest : List ℕ) (found : first_frame file ≡ Some (batch, rest)) where
  first_of : batches_of file ≡ batch ∷ batches_of rest
  first_of = reads_once (batches_of file) (batch ∷ batches_of rest) file (reads_own file) (rest, found, reads_own rest)

  texts_are : texts_of file ≡ map text_of (batches_of rest)
  texts_are = ap (λ (b : List (List ℕ)). map text_of (drop 1 b)) first_of

  pub finds : (head : Head) (end : ℕ) → head_at (text_of batch) ≡ Some head → AreSealed head.key (batches_of file) → Scanned file end → Finds file head end
  finds head end is all scanned = record {
    first = text_of batch;
    is = is;
    sealed_all =
        all_sealed head.key (batches_of file) all ∙ ap (λ (b : List (List ℕ)). map (sealed head.key) (map text_of b)) first_of
        ∙ ap (λ (t : List (List ℕ)). sealed head.key (text_of batch) ∷ map (sealed head.key) t) (sym texts_are);
    scanned = scanned;
  }

  -- the head is that of the first frame
  head_is : (head : Head) (texts : List (List ℕ)) → HasTexts head texts file → head_at (text_of batch) ≡ Some head
  head_is head texts h =
      let same : Some (sealed head.key h.first, h.reads.0) ≡ Some (batch, rest) = sym h.reads.1 ∙ found in
      let is : sealed head.key h.first ≡ batch = ap before same in
      ap (λ (b : List ℕ). head_at (text_of b)) (sym is) ∙ ap (λ (t : List ℕ). head_at t) (text_of-sealed head.key h.first) ∙ h.is

  pub no_head : head_at (text_of batch) ≡ None → (head : Head) (texts : List (List ℕ)) → HasTexts head texts file → ⊥
  no_head none head texts h = let e : head_at (text_of batch) ≡ Some head = head_is head texts h in cc

  pub other_kinds : (head : Head) (kinds : ℕ × ℕ) → head_at (text_of batch) ≡ Some head → (HasKinds head kinds → ⊥) → (other : Head) (texts : List (List ℕ)) → HasTexts other texts file → HasKinds other kinds → ⊥
  other_kinds head kinds is not other texts h are =
      let e : head_at (text_of batch) ≡ Some other = head_is other texts h in
      let same : other ≡ head = cc in
      not (subst (λ (x : Head). HasKinds x kinds) same are)

  pub damaged : (head : Head) → head_at (text_of batch) ≡ Some head → (AreSealed head.key (batches_of file) → ⊥) → (other : Head) (texts : List (List ℕ)) → HasTexts other texts file → ⊥
  damaged head is unsealed other texts h =
      let e : head_at (text_of batch) ≡ Some other = head_is other texts h in
      let same : other ≡ head = cc in
      let are : batches_of file ≡ sealed other.key h.first ∷ map (sealed other.key) texts = reads_once (batches_of file) (sealed other.key h.first ∷ map (sealed other.key) texts) file (reads_own file) h.reads in
      unsealed (subst (λ (x : Head). AreSealed x.key (batches_of file)) same (subst (AreSealed other.key) (sym are) (sealed_all other.key (h.first ∷ texts))))

-- the frames end where they were found to end
pub end_found : (file : List ℕ) (end : ℕ) → Scanned file end → end ≡ end_of file
end_found file end s = s.ends ∙ ap (λ (b : List (List ℕ)). length (frames b)) (sym (batches_are s.batches s.tail file s.whole s.short s.none))

-- the head of a batch is what its text spells
pub head_of_batch : (batch : List ℕ) (head : Head) → IsHeadBatch batch head → head_at (text_of batch) ≡ Some head
head_of_batch batch head is =
    ap (λ (b : List ℕ). head_at (text_of b)) is.sealed_first ∙ ap (λ (t : List ℕ). head_at t) (text_of-sealed head.key is.first) ∙ is.is

pub no_head_batch : (batch : List ℕ) → head_at (text_of batch) ≡ None → (head : Head) → IsHeadBatch batch head → ⊥
no_head_batch batch none head is = let e : head_at (text_of batch) ≡ Some head = head_of_batch batch head is in cc

pub other_seal : (batch : List ℕ) (head : Head) → head_at (text_of batch) ≡ Some head → batch ≢ sealed head.key (text_of batch) → (other : Head) → IsHeadBatch batch other → ⊥
other_seal batch head found unsealed other is =
    let e : head_at (text_of batch) ≡ Some other = head_of_batch batch other is in
    let same : other ≡ head = cc in
    unsealed (subst (λ (x : Head). batch ≡ sealed x.key (text_of batch)) same (sealed_itself other.key batch is.first is.sealed_first))

-- the cases of a file of at least two bytes
pub blank_cases : (gate : ℕ) (behind : List ℕ) → 0 < length behind → IsBlank (gate ∷ behind) → (suc (length behind) ≤ 56) × (gate ≢ 215) × ((gate ≡ 0) ⊎ HasHead (215 ∷ behind))
blank_cases gate behind some (inl few) = absurd (omega (arith, few))
blank_cases gate behind some (inr blank) = blank

-- what an option of a head says
pub head_found : (o : Option Head) (batch : List ℕ) → IfSome o (λ head. IsHeadBatch batch head) → is_some o ≡ true → (head : Head) × IsHeadBatch batch head
head_found None batch found e = let z : ⊥ = cc e in absurd z
head_found (Some head) batch found e = (head, found)

pub head_absent : (o : Option Head) (batch : List ℕ) → IfNone o ((head : Head) → IsHeadBatch batch head → ⊥) → (head : Head) → IsHeadBatch batch head → is_some o ≡ true
head_absent None batch none head is = absurd (none head is)
head_absent (Some x) batch none head is = refl
