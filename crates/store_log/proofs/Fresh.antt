-- What a crash leaves of a file whose head is being made.
use Rattle.std.proofs.Common.{◌≡◌, inl, inr, ℕ, suc, ◌<◌, ◌≤◌, List, [], ◌∷◌, length, length-drop, take, drop, slice_index, sym, ◌∙◌, ap, subst, arith}
use Rattle.std.proofs.lemmas.Bool.{cases_eq}
use Rattle.std.proofs.lemmas.List.{take_all}
use Rattle.sqlite_disk.specs.Disk.{Follows, Holds, Only, Torn}
use Rattle.store_frames.proofs.Spelled.{found_gate}
use Rattle.store_log.specs.Log.{HasHead, IsBlank, IsClosed, IsFresh}
use Rattle.store_log.proofs.Ranges.{torn_back, held_part}

-- a torn first byte
pub torn_first : (old c : List ℕ) → 0 < length old → Torn 0 1 old c → c ≡ slice_index c 0 ∷ drop 1 old
torn_first old [] some torn = absurd (omega (arith, torn.no_shorter))
torn_first old (x ∷ c) some torn = ap (λ (l : List ℕ). x ∷ l) (torn_back 0 1 old (x ∷ c) torn (omega arith))

-- a byte, and the rest of a file with a head
gate_fresh : (gate : ℕ) (behind : List ℕ) → suc (length behind) ≤ 56 → HasHead (215 ∷ behind) → IsFresh (gate ∷ behind)
gate_fresh gate behind few has = elim (cases_eq gate 215) [
  | inl open_gate ↦ inr (few, subst (λ (g : ℕ). HasHead (g ∷ behind)) (sym open_gate) has)
  | inr other ↦ inl (inr (few, other, inr has))
]

pub torn_gate_fresh : (old c : List ℕ) → 0 < length old → length old ≤ 56 → HasHead (215 ∷ drop 1 old) → Torn 0 1 old c → IsFresh c
torn_gate_fresh old c some few has torn =
    let whole : c ≡ slice_index c 0 ∷ drop 1 old = torn_first old c some torn in
    subst IsFresh (sym whole) (gate_fresh (slice_index c 0) (drop 1 old) (omega (arith, length-drop 1 old)) has)

-- a crash while the gate of a blank file is closed
pub closing_fresh : (old c : List ℕ) → IsBlank old → ((0 < length old) × (slice_index old 0 ≡ 0) → ⊥) → Torn 0 1 old c → IsFresh c
closing_fresh old c (inl few) shut torn = inl (inl (omega (arith, few, torn.no_longer)))
closing_fresh old c (inr blank) shut torn = elim blank.2 [
  | inl closed ↦
      elim (cases_eq (length old) 0) [
        | inl none ↦ inl (inl (omega (arith, none, torn.no_longer)))
        | inr some ↦ absurd (shut (omega (arith, some), closed))
      ]
  | inr has ↦ torn_gate_fresh old c (long old has) blank.0 has torn
]
  where
    long : (l : List ℕ) → HasHead (215 ∷ drop 1 l) → 0 < length l
    long l has = omega (arith, (found_gate (215 ∷ drop 1 l) has.batch has.rest has.found).0, length-drop 1 l)

few_blank : (old : List ℕ) → IsBlank old → length old ≤ 56
few_blank old (inl few) = omega (arith, few)
few_blank old (inr blank) = blank.0

-- once it is closed
pub closing_done : (old c : List ℕ) → IsBlank old → Torn 0 1 old c → Holds c 0 (0 ∷ []) → IsClosed c
closing_done old c blank torn holds = record {
  some = omega (arith, holds.within);
  few = omega (arith, torn.no_longer, few_blank old blank);
  shut = holds.each 0 (omega arith);
}

pub closed_already : (old : List ℕ) → IsBlank old → 0 < length old → slice_index old 0 ≡ 0 → IsClosed old
closed_already old blank some shut = record { some = some; few = few_blank old blank; shut = shut }

-- a crash while the head is written behind the gate
pub behind_fresh : (n : ℕ) (old c : List ℕ) → n ≤ 55 → IsClosed old → Torn 1 n old c → IsFresh c
behind_fresh n old c few closed torn =
    let shut : slice_index c 0 ≡ 0 = torn.below 0 closed.some (omega arith) ∙ closed.shut in
    inl (inr (omega (arith, few, closed.few, torn.no_longer), λ e. absurd (omega (arith, e, shut)), inl shut))

-- once it is written
pub behind_done : (bytes behind old c : List ℕ) → length bytes ≡ 56 → behind ≡ drop 1 bytes → IsClosed old → Torn 1 (length behind) old c → Holds c 1 behind → c ≡ 0 ∷ drop 1 bytes
behind_done bytes behind old [] long is closed torn holds = absurd (omega (arith, holds.within))
behind_done bytes behind old (x ∷ c) long is closed torn holds =
    let size : length behind ≡ 55 = omega (arith, long, ap length is, length-drop 1 bytes) in
    let shut : x ≡ 0 = torn.below 0 closed.some (omega arith) ∙ closed.shut in
    let short : length c ≤ length behind = omega (arith, size, closed.few, torn.no_longer) in
    let held : take (length behind) c ≡ behind = held_part (x ∷ c) 1 behind holds in
    ap (λ (g : ℕ). g ∷ c) shut ∙ ap (λ (l : List ℕ). 0 ∷ l) (sym (take_all (length behind) c short) ∙ held ∙ is)

-- a frame with its gate
pub with_gate : (bytes : List ℕ) → HasHead bytes → bytes ≡ 215 ∷ drop 1 bytes
with_gate [] has = absurd (omega (arith, (found_gate [] has.batch has.rest has.found).0))
with_gate (x ∷ bytes) has = ap (λ (g : ℕ). g ∷ bytes) (found_gate (x ∷ bytes) has.batch has.rest has.found).1

-- a crash while the gate is opened
pub opening_fresh : (bytes old c : List ℕ) → length bytes ≡ 56 → HasHead bytes → old ≡ 0 ∷ drop 1 bytes → Torn 0 1 old c → IsFresh c
opening_fresh bytes old c long has is torn =
    let behind : drop 1 old ≡ drop 1 bytes = ap (λ (l : List ℕ). drop 1 l) is in
    let size : length old ≡ 56 = ap length is ∙ omega (arith, long, length-drop 1 bytes) in
    let headed : HasHead (215 ∷ drop 1 old) = subst HasHead (with_gate bytes has ∙ ap (λ (l : List ℕ). 215 ∷ l) (sym behind)) has in
    torn_gate_fresh old c (omega (arith, size)) (omega (arith, size)) headed torn

-- once it is open
pub opening_done : (bytes old c : List ℕ) → HasHead bytes → old ≡ 0 ∷ drop 1 bytes → Torn 0 1 old c → Holds c 0 (215 ∷ []) → c ≡ bytes
opening_done bytes old c has is torn holds =
    torn_first old c (omega (arith, ap length is)) torn
    ∙ ap (λ (g : ℕ). g ∷ drop 1 old) (holds.each 0 (omega arith))
    ∙ ap (λ (l : List ℕ). 215 ∷ drop 1 l) is ∙ sym (with_gate bytes has)

-- the same of all that a crash may leave
pub closing_leaves : (old seen : List ℕ) (before after : List ℕ → Type 0) → IsBlank old → seen ≡ old → Only seen before → ((0 < length old) × (slice_index old 0 ≡ 0) → ⊥) → Follows (Torn 0 1) before after → (c : List ℕ) → after c → IsFresh c
closing_leaves old seen before after blank read only shut follows c left =
    let from = follows c left in
    closing_fresh old c blank shut (subst (λ (d : List ℕ). Torn 0 1 d c) (only from.0 from.1 ∙ read) from.2)

pub behind_leaves : (n : ℕ) (seen : List ℕ) (before after : List ℕ → Type 0) → n ≤ 55 → IsClosed seen → Only seen before → Follows (Torn 1 n) before after → (c : List ℕ) → after c → IsFresh c
behind_leaves n seen before after few closed only follows c left =
    let from = follows c left in
    behind_fresh n seen c few closed (subst (λ (d : List ℕ). Torn 1 n d c) (only from.0 from.1) from.2)

pub opening_leaves : (bytes seen : List ℕ) (before after : List ℕ → Type 0) → length bytes ≡ 56 → HasHead bytes → seen ≡ 0 ∷ drop 1 bytes → Only seen before → Follows (Torn 0 1) before after → (c : List ℕ) → after c → IsFresh c
opening_leaves bytes seen before after long has is only follows c left =
    let from = follows c left in
    opening_fresh bytes seen c long has is (subst (λ (d : List ℕ). Torn 0 1 d c) (only from.0 from.1) from.2)
