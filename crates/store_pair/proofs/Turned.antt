-- What a rewrite makes of two files.
use Rattle.std.proofs.Common.{◌≡◌, ◌⊎◌, inl, inr, ℕ, ◌+◌, Bool, true, false, not, IsTrue, List, [], ◌∷◌, sym, subst, arith}
use Rattle.store_log.specs.Log.{Contents, HasTexts, LeavesTexts}
use Rattle.store_log.specs.Spare.{AreOlder, IsOlder, next_head}
use Rattle.store_log.specs.declared.head.Head.{Head}
use Rattle.store_log.proofs.Spares.{texts_older}
use Rattle.store_pair.specs.Pair.{AreClean, HavePair, Held, IsPair, LeavePair, MayHold, counted_in, files_in, other_in}
use Rattle.store_pair.proofs.Pairs.{clean_both, clean_parts, hold_parts, leave_pair, pair_turns, running}

module _ {D : Type 0} {is_clean : D → Bool} {may_leave : D → List ℕ → Type 0} {old : Contents D} {spare : D} (k : IsPair is_clean may_leave old spare) (runs : old.stopped ≡ false) (swapped : Bool) (text : List ℕ) (new : Contents D) where
  -- the other file counts, and the first of them was retired
  module _ (first last : D) (head : new.head ≡ next_head old.head) (same : first ≡ old.disk) (done : IsTrue (is_clean new.disk) → (new.texts ≡ text ∷ []) × LeavesTexts new.head new.texts (may_leave new.disk)) (older : (generation : ℕ) → IsTrue (is_clean last) → AreOlder generation (may_leave first) → AreOlder generation (may_leave last)) (cleaner : IsTrue (is_clean last) → IsTrue (is_clean first)) where
    own : IsTrue (is_clean last) → IsTrue (is_clean old.disk)
    own clean = subst (λ d. IsTrue (is_clean d)) same (cleaner clean)

    last_older : IsTrue (is_clean last) → AreOlder new.head.generation (may_leave last)
    last_older clean = older new.head.generation clean (λ file left.
        let has = k.leaves runs (own clean) file (subst (λ d. may_leave d file) same left) in
        subst (λ (h : Head). IsOlder h.generation file) (sym head) (texts_older (old.head.generation + 1) old.head old.texts file (omega arith) has))

    pub turned_pair : IsPair is_clean may_leave new last
    turned_pair = record { leaves = λ _ clean. (done clean).1; older = λ _ _ clean. last_older clean }

    module _ (clean : AreClean is_clean (files_in (not swapped) new.disk last)) where
      parts : IsTrue (is_clean new.disk) × IsTrue (is_clean last)
      parts = clean_parts is_clean (not swapped) new.disk last clean

      pub turned_texts : (new.texts ≡ text ∷ []) × LeavePair may_leave new.head (text ∷ []) (files_in (not swapped) new.disk last)
      turned_texts =
          let is = done parts.0 in
          (is.0, subst (λ (t : List (List ℕ)). LeavePair may_leave new.head t (files_in (not swapped) new.disk last)) is.0 (leave_pair may_leave (not swapped) new.disk last new.head new.texts is.1 (last_older parts.1)))

      pub turned_crash : (left : Held) → MayHold may_leave (files_in (not swapped) new.disk last) left → HavePair old.head old.texts left ⊎ HavePair (next_head old.head) (text ∷ []) left
      turned_crash left may = inr (subst (λ (h : Head). HavePair h (text ∷ []) left) head (turned_texts.1 left may))

      pub turned_clean : (IsTrue (is_clean new.disk) → IsTrue (is_clean spare)) → AreClean is_clean (files_in swapped old.disk spare)
      turned_clean other = clean_both is_clean swapped old.disk spare (own parts.1) (other parts.0)

  -- the file that counts is as before, and the other one too unless the log is stopped
  module _ (last : D) (disk : new.disk ≡ old.disk) where
    still : IsTrue (is_clean new.disk) → IsTrue (is_clean old.disk)
    still clean = subst (λ d. IsTrue (is_clean d)) disk clean

    has_texts : IsTrue (is_clean new.disk) → LeavesTexts old.head old.texts (may_leave new.disk)
    has_texts clean file left = k.leaves runs (still clean) file (subst (λ d. may_leave d file) disk left)

    module _ (refused : (new.stopped ≡ true) ⊎ ((new ≡ old) × (IsTrue (is_clean old.disk) → IsTrue (is_clean last) → AreOlder old.head.generation (may_leave last)))) where
      pub refused_pair : IsPair is_clean may_leave new last
      refused_pair = record {
        leaves = λ on clean file left. subst (λ (l : Contents D). HasTexts l.head l.texts file) (sym (running new.stopped refused on).0) (has_texts clean file left);
        older = λ on clean other.
            let kept = running new.stopped refused on in
            subst (λ (l : Contents D). AreOlder l.head.generation (may_leave last)) (sym kept.0) (kept.1 (still clean) other);
      }

      pub refused_texts : new.texts ≡ old.texts → (new.stopped ≡ true) ⊎ (AreClean is_clean (files_in swapped new.disk last) → (new.texts ≡ old.texts) × LeavePair may_leave old.head old.texts (files_in swapped new.disk last))
      refused_texts texts = elim refused [
        | inl on ↦ inl on
        | inr kept ↦ inr (λ clean.
            let parts = clean_parts is_clean swapped new.disk last clean in
            (texts, leave_pair may_leave swapped new.disk last old.head old.texts (has_texts parts.0) (kept.1 (still parts.0) parts.1)))
      ]

    module _ (clean : AreClean is_clean (files_in swapped new.disk last)) where
      pub refused_crash : (IsTrue (is_clean old.disk) → IsTrue (is_clean last) → (file : List ℕ) → may_leave last file → IsOlder old.head.generation file ⊎ HasTexts (next_head old.head) (text ∷ []) file) → (left : Held) → MayHold may_leave (files_in swapped new.disk last) left → HavePair old.head old.texts left ⊎ HavePair (next_head old.head) (text ∷ []) left
      refused_crash crash left may =
          let parts = clean_parts is_clean swapped new.disk last clean in
          let held = hold_parts may_leave swapped new.disk last left may in
          pair_turns swapped old.head old.texts text left (has_texts parts.0 (counted_in swapped left) held.0) (crash (still parts.0) parts.1 (other_in swapped left) held.1)

      pub refused_clean : (IsTrue (is_clean last) → IsTrue (is_clean spare)) → AreClean is_clean (files_in swapped old.disk spare)
      refused_clean other =
          let parts = clean_parts is_clean swapped new.disk last clean in
          clean_both is_clean swapped old.disk spare (still parts.0) (other parts.1)
