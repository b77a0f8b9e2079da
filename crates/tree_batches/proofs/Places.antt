-- The keys of a list that have their answers, and those that are left.
use Rattle.std.proofs.Common.{◌≡◌, ◌≢◌, ◌⊎◌, ℕ, ◌+◌, ◌-◌, ◌<◌, ◌≤◌, List, [], ◌∷◌, length, get_or, map, set, take, drop, min, refl, ap, ◌∙◌, inl, inr, arith, length-drop}
use Rattle.std.proofs.lemmas.Bool.{cases_eq}
use Rattle.std.proofs.lemmas.List.{drop_more, get_or-drop, get_or-set_other, get_or-set_same, get_or-take, get_or_read, length-take}
use Rattle.tree_batches.specs.Batches.{Advances, AreFound, HasFound}
use Rattle.tree_batches.specs.declared.batch.Batch.{Batch}

module _ {X : Type 0} (keys : List X) (start end k : ℕ) (low : start ≤ k) (high : k < end) where
  -- a key of a slice is one of the list
  pub slice_at : (d : X) → get_or (take (end - start) (drop start keys)) (k - start) d ≡ get_or keys k d
  slice_at d =
      let same : start + (k - start) ≡ k = omega (arith, low) in
      get_or-take (end - start) (drop start keys) (k - start) d (omega (arith, low, high)) ∙ get_or-drop start keys (k - start) d ∙ ap (λ n. get_or keys n d) same

  pub slice_long : end ≤ length keys → k - start < length (take (end - start) (drop start keys))
  slice_long inside = rw (length-take (end - start) (drop start keys), length-drop start keys) (omega (arith, low, high, inside))

-- the first key that is left, and the others
pub first_left : {Q : Type 0} (keys : List Q) (at : ℕ) → at < length keys → (key : Q) × (drop at keys ≡ get_or keys at key ∷ drop (at + 1) keys)
first_left [] at within = absurd (omega (arith, within))
first_left (key ∷ keys) at within = (key, drop_more (key ∷ keys) at key within)

-- a batch is within its list, and short
pub most : (answered len count : ℕ) → answered < len → count ≡ min (len - answered) 8 → (answered + count ≤ len) × (answered + count ≤ answered + 8)
most answered len count within is = (omega (arith, within, is), omega (arith, is))

module _ {Q X Y : Type 0} (seen : X → Y) (answer : Q → Y) (keys : List Q) where
  -- the keys before a place have their answers, and that one too
  pub one_found : (place : ℕ) (key : Q) → key ≡ get_or keys place key → place < length keys → (found : List X) → place < length found → (x : X) → seen x ≡ answer key
      → AreFound seen answer keys place found → AreFound seen answer keys (place + 1) (set found place x)
  one_found place key is_key within found held x answers before k d e high = by_place (cases_eq k place)
    where
      by_place : (k ≡ place) ⊎ (k ≢ place) → seen (get_or (set found place x) k e) ≡ answer (get_or keys k d)
      by_place (inl same) =
          let read : key ≡ get_or keys place d = get_or_read keys place key within is_key d in
          rw (same, get_or-set_same found place x e held, ← read) answers
      by_place (inr other) = rw (get_or-set_other found place k x e other) (before k d e (omega (arith, high, other)))

  -- the answer that is kept is that for the first key that is left
  pub first_answered : (batch : Batch X) → HasFound seen answer keys batch → batch.answered < batch.end → (x : X) → x ≡ get_or batch.found (batch.answered - batch.start) x
      → map answer (drop batch.answered keys) ≡ seen x ∷ map answer (drop (batch.answered + 1) keys)
  first_answered batch kept more x is =
      let within : batch.answered < length keys = omega (arith, more, kept.inside) in
      let first = first_left keys batch.answered within in
      let same : seen x ≡ answer (get_or keys batch.answered first.0) = ap seen is ∙ kept.each batch.answered first.0 x (omega arith) more in
      rw (first.1, same) refl

  -- the other answers are kept
  pub kept_on : (old new : Batch X) → HasFound seen answer keys old → old.answered < old.end → Advances old new → HasFound seen answer keys new
  kept_on old new kept more next = record {
    begun = omega (arith, kept.begun, next.start, next.answered);
    within = omega (arith, more, next.end, next.answered);
    inside = omega (arith, kept.inside, next.end);
    few = omega (arith, kept.few, next.start, next.end);
    long = rw next.found kept.long;
    each = λ k d e low high. rw (next.found, next.start) (kept.each k d e (omega (arith, low, next.answered)) (omega (arith, high, next.end)));
  }
