-- A file that is written over, and what a crash leaves of it.
use Rattle.std.proofs.Common.{◌≡◌, ◌≢◌, ◌⊎◌, inl, inr, ℕ, zero, suc, ◌+◌, ◌^◌, ◌<◌, ◌≤◌, ◌==◌, nat_le, Bool, true, false, ◌&&◌, if◌then◌else◌, List, [], ◌∷◌, ◌++◌, length, take, drop, map, slice_index, Option, Some, None, refl, sym, ◌∙◌, ap, subst, arith, append_assoc, length-append}
use Rattle.std.proofs.lemmas.Bool.{cases_eq}
use Rattle.std.proofs.lemmas.Bool.Decides.{nat_tests}
use Rattle.std.proofs.lemmas.List.{append-nil, drop-drop, take_at, length-take-le}
use Rattle.std.specs.Str.{bytes_eq}
use Rattle.sqlite_disk.specs.Disk.{Cut, Follows, Holds, Only, Torn}
use Rattle.store_frames.specs.Frame.{AreShort, Reads, are_marked, counted, first_frame, frame, at_rest, batches_of, unmarked, zeros}
use Rattle.store_frames.specs.Seal.{sealed, text_of}
use Rattle.store_frames.proofs.Batches.{before, reads_at_rest}
use Rattle.store_frames.proofs.Seals.{length-sealed}
use Rattle.store_frames.proofs.Spelled.{found_gate}
use Rattle.store_log.specs.Head.{head_at, head_text, magic, numbers_of}
use Rattle.store_log.specs.Rest.{IsAtRest}
use Rattle.store_log.specs.Log.{HasTexts, IsBlank, IsHeadBatch, IsKept, texts_of}
use Rattle.store_log.specs.Spare.{AreOlder, IsGateOf, IsHeaded, IsOlder, IsShutOff}
use Rattle.store_log.specs.declared.head.Head.{Head}
use Rattle.store_log.specs.declared.frame_file.FrameFile.{FrameFile}
use Rattle.store_log.proofs.AtRest.{at_rest_are}
use Rattle.store_log.proofs.Examined.{head_of_batch}
use Rattle.store_log.proofs.Fresh.{torn_first}
use Rattle.store_log.proofs.Ranges.{torn_front, torn_back, part, held_part, in_parts}
use Rattle.store_log.proofs.Shut.{unmarked_opens}
use Rattle.store_log.proofs.Texts.{texts-sealed}

chosen : {A : Type 0} (ok : Bool) (o : Option A) (p : A) → (if ok then o else None) ≡ Some p → (ok ≡ true) × (o ≡ Some p)
chosen true o p e = (refl, e)
chosen false o p e = let z : ⊥ = cc e in absurd z

first_test : (a b : Bool) → (a && b) ≡ true → a ≡ true
first_test true b e = refl
first_test false b e = e

-- the batch of a frame is behind its header
found_batch : (file batch rest : List ℕ) → first_frame file ≡ Some (batch, rest) → batch ≡ take (length batch) (drop 11 file)
found_batch file batch rest e =
    let n = unmarked (take 5 (drop 1 file)) in
    let z = unmarked (take 5 (drop 6 file)) in
    let body = drop 11 file in
    let found = (chosen (nat_le 11 (length file) && (slice_index file 0 == 215) && are_marked (take 10 (drop 1 file))) (counted n z body) (batch, rest) e).1 in
    let inner = chosen (nat_le n (length body) && (zeros (take n body) == z)) (Some (take n body, drop n body)) (batch, rest) found in
    let batch_is : take n body ≡ batch = ap before inner.1 in
    let within : nat_le n (length body) ≡ true = first_test (nat_le n (length body)) (zeros (take n body) == z) inner.0 in
    let fits : n ≤ length body = grind (arith, nat_tests, within) in
    let length_is : length batch ≡ n = sym (ap length batch_is) ∙ length-take-le n body fits in
    sym batch_is ∙ ap (λ (k : ℕ). take k body) (sym length_is)

head_long : (text : List ℕ) (head : Head) → head_at text ≡ Some head → length text ≡ 36
head_long text head e =
    let both = (chosen ((length text == 36) && bytes_eq magic (take 12 text)) (Some (numbers_of text)) head e).0 in
    let one : (length text == 36) ≡ true = first_test (length text == 36) (bytes_eq magic (take 12 text)) both in
    grind (arith, nat_tests, one)

pub head_batch_long : (batch : List ℕ) (head : Head) → IsHeadBatch batch head → length batch ≡ 44
head_batch_long batch head is = omega (arith, ap length is.sealed_first, length-sealed head.key is.first, head_long is.first head is.is)

-- the head of a file is behind the header of its first frame
pub headed_batch : (file : List ℕ) (head : Head) → IsHeaded file head → IsHeadBatch (take 44 (drop 11 file)) head
headed_batch file head h =
    subst (λ (b : List ℕ). IsHeadBatch b head) (found_batch file h.batch h.rest h.found ∙ ap (λ (k : ℕ). take k (drop 11 file)) (head_batch_long h.batch head h.is)) h.is

not_open_headed : (file : List ℕ) → slice_index file 0 ≢ 215 → (head : Head) → IsHeaded file head → ⊥
not_open_headed file other head h = other (found_gate file h.batch h.rest h.found).1

-- files that are older than any log
pub shut_older : (generation : ℕ) (file : List ℕ) → IsShutOff file → IsOlder generation file
shut_older generation file s = record {
  spare = inr (inl s.shut);
  older = λ head h. absurd (omega (arith, s.shut, (found_gate file h.batch h.rest h.found).1));
}

pub few_older : (generation : ℕ) (file : List ℕ) → length file ≤ 2 → IsOlder generation file
few_older generation file few = record {
  spare = inl few;
  older = λ head h. absurd (omega (arith, few, (found_gate file h.batch h.rest h.found).0));
}

pub texts_headed : (head : Head) (texts : List (List ℕ)) (file : List ℕ) → HasTexts head texts file → IsHeaded file head
texts_headed head texts file h = record {
  batch = sealed head.key h.first;
  rest = h.reads.0;
  found = h.reads.1;
  is = record { first = h.first; is = h.is; sealed_first = refl };
}

same_batch : (d c : List ℕ) (head : Head) → drop 11 c ≡ drop 11 d → IsHeadBatch (take 44 (drop 11 d)) head → IsHeadBatch (take 44 (drop 11 c)) head
same_batch d c head same is = subst (λ (l : List ℕ). IsHeadBatch (take 44 l) head) (sym same) is

-- a file has one head
pub head_once : (file : List ℕ) (one other : Head) → IsHeaded file one → IsHeaded file other → one ≡ other
head_once file one other a b =
    let same : Some (a.batch, a.rest) ≡ Some (b.batch, b.rest) = sym a.found ∙ b.found in
    let is : a.batch ≡ b.batch = ap before same in
    let first = head_of_batch a.batch one a.is in
    let second = head_of_batch b.batch other b.is in
    let some : Some one ≡ Some other = sym first ∙ ap (λ (l : List ℕ). head_at (text_of l)) is ∙ second in
    cc some

-- a file with an earlier head
pub headed_older : (generation : ℕ) (head : Head) (file : List ℕ) → IsHeaded file head → head.generation < generation → IsOlder generation file
headed_older generation head file headed less = record {
  spare = inr (inr (head, headed_batch file head headed));
  older = λ other is. subst (λ (x : Head). x.generation < generation) (head_once file head other headed is) less;
}

pub texts_older : (generation : ℕ) (head : Head) (texts : List (List ℕ)) (file : List ℕ) → head.generation < generation → HasTexts head texts file → IsOlder generation file
texts_older generation head texts file less h = headed_older generation head file (texts_headed head texts file h) less

-- a blank file
pub blank_older : (generation : ℕ) (file : List ℕ) → IsBlank file → IsOlder generation file
blank_older generation file (inl few) = few_older generation file (omega (arith, few))
blank_older generation file (inr blank) = record {
  spare = elim blank.2 [
    | inl shut ↦ inr (inl shut)
    | inr has ↦ inr (inr (has.head, same_batch (215 ∷ drop 1 file) file has.head (behind_first file) (headed_batch (215 ∷ drop 1 file) has.head (record { batch = has.batch; rest = has.rest; found = has.found; is = has.is }))))
  ];
  older = λ head h. absurd (not_open_headed file blank.1 head h);
}
  where
    behind_first : (l : List ℕ) → drop 11 l ≡ drop 11 (215 ∷ drop 1 l)
    behind_first [] = refl
    behind_first (x ∷ l) = refl

tail_same : (k m : ℕ) (d c : List ℕ) → drop k c ≡ drop k d → drop (k + m) c ≡ drop (k + m) d
tail_same k m d c same = sym (drop-drop m k c) ∙ ap (λ (l : List ℕ). drop m l) same ∙ drop-drop m k d

whole_of : (d : List ℕ) → 0 < length d → d ≡ slice_index d 0 ∷ drop 1 d
whole_of [] some = absurd (omega (arith, some))
whole_of (x ∷ d) some = refl

-- an open gate, or that of an empty file, is closed
pub open_closing : (generation : ℕ) (d c : List ℕ) → IsOlder generation d → IsGateOf d 215 → Torn 0 1 d c → IsOlder generation c
open_closing generation d c o gate torn = elim gate [
  | inl none ↦ few_older generation c (omega (arith, none.0, torn.no_longer))
  | inr some ↦ elim o.spare [
    | inl few ↦ few_older generation c (omega (arith, few, torn.no_longer))
    | inr (inl shut) ↦ absurd (omega (arith, shut, some.1))
    | inr (inr has) ↦
        let behind : drop 1 c ≡ drop 1 d = torn_back 0 1 d c torn (omega (arith, some.0)) in
        let first : c ≡ slice_index c 0 ∷ drop 1 d = torn_first d c some.0 torn in
        record {
          spare = inr (inr (has.0, same_batch d c has.0 (tail_same 1 10 d c behind) has.1));
          older = λ head h.
              let gate_is : slice_index c 0 ≡ slice_index d 0 = (found_gate c h.batch h.rest h.found).1 ∙ some.1 in
              let same : c ≡ d = first ∙ ap (λ (g : ℕ). g ∷ drop 1 d) gate_is ∙ sym (whole_of d some.0) in
              o.older head (subst (λ (f : List ℕ). IsHeaded f head) same h);
        }
  ]
]

-- a gate that is neither open nor closed: what is behind it is spoiled
pub spoiling : (generation : ℕ) (d c : List ℕ) (gate : ℕ) → IsOlder generation d → IsGateOf d gate → gate ≢ 0 → gate ≢ 215 → Torn 1 1 d c → IsOlder generation c
spoiling generation d c gate o is shut other torn = elim is [
  | inl none ↦ absurd (other none.1)
  | inr some ↦ elim o.spare [
    | inl few ↦ few_older generation c (omega (arith, few, torn.no_longer))
    | inr (inl closed) ↦ absurd (shut (some.1 ∙ closed))
    | inr (inr has) ↦
        elim (cases_le (length d)) [
          | inl few ↦ few_older generation c (omega (arith, few, torn.no_longer))
          | inr long ↦
              let behind : drop 2 c ≡ drop 2 d = torn_back 1 1 d c torn (omega (arith, long)) in
              let gate_is : slice_index c 0 ≡ gate = torn.below 0 some.0 (omega arith) ∙ sym some.1 in
              record {
                spare = inr (inr (has.0, same_batch d c has.0 (tail_same 2 9 d c behind) has.1));
                older = λ head h. absurd (not_open_headed c (λ e. other (sym gate_is ∙ e)) head h);
              }
        ]
  ]
]
  where
    cases_le : (n : ℕ) → (n ≤ 2) ⊎ (2 < n)
    cases_le zero = inl (omega arith)
    cases_le (suc zero) = inl (omega arith)
    cases_le (suc (suc zero)) = inl (omega arith)
    cases_le (suc (suc (suc n))) = inr (omega arith)

-- then it is closed
pub spoiled_closing : (generation : ℕ) (s c : List ℕ) → IsOlder generation s → slice_index s 0 ≢ 0 → Holds s 1 (0 ∷ []) → Torn 0 1 s c → IsOlder generation c
spoiled_closing generation s c o open_gate holds torn = elim o.spare [
  | inl few ↦ few_older generation c (omega (arith, few, torn.no_longer))
  | inr (inl closed) ↦ absurd (open_gate closed)
  | inr (inr has) ↦
      let some : 0 < length s = omega (arith, holds.within) in
      let behind : drop 1 c ≡ drop 1 s = torn_back 0 1 s c torn (omega (arith, some)) in
      record {
        spare = inr (inr (has.0, same_batch s c has.0 (tail_same 1 10 s c behind) has.1));
        older = λ head h. absurd (none s c (torn_first s c some torn) holds.within (holds.each 0 (omega arith)) head h);
      }
]
  where
    none : (l c : List ℕ) → c ≡ slice_index c 0 ∷ drop 1 l → 1 + 1 ≤ length l → slice_index l 1 ≡ 0 → (head : Head) → IsHeaded c head → ⊥
    none [] c is long zero_at head h = omega (arith, long)
    none (x ∷ []) c is long zero_at head h = omega (arith, long)
    none (x ∷ y ∷ l) c is long zero_at head h =
        let spelled : c ≡ slice_index c 0 ∷ 0 ∷ l = is ∙ ap (λ (b : ℕ). slice_index c 0 ∷ b ∷ l) zero_at in
        let empty : first_frame c ≡ None = ap first_frame spelled ∙ unmarked_opens x l (slice_index c 0) in
        let found : first_frame c ≡ Some (h.batch, h.rest) = h.found in
        cc (empty, found)

pub spoiled_open : (d s : List ℕ) (gate : ℕ) → IsGateOf d gate → gate ≢ 0 → gate ≢ 215 → Torn 1 1 d s → slice_index s 0 ≢ 0
spoiled_open d s gate is shut other torn none = elim is [
  | inl empty ↦ other empty.1
  | inr some ↦ shut (some.1 ∙ sym (torn.below 0 some.0 (omega arith)) ∙ none)
]

pub closed_is : (c : List ℕ) → Holds c 0 (0 ∷ []) → IsShutOff c
closed_is c holds = record { some = omega (arith, holds.within); shut = holds.each 0 (omega arith) }

-- a step that keeps a file older keeps all that a crash may leave older
pub older_after : (generation : ℕ) (seen : List ℕ) (step : List ℕ → List ℕ → Type 0) (before after : List ℕ → Type 0) → Only seen before → Follows step before after → AreOlder generation before
    → ((c : List ℕ) → IsOlder generation seen → step seen c → IsOlder generation c) → AreOlder generation after
older_after generation seen step before after only follows older keeps c left =
    let from = follows c left in
    let same : from.0 ≡ seen = only from.0 from.1 in
    keeps c (subst (IsOlder generation) same (older from.0 from.1)) (subst (λ (d : List ℕ). step d c) same from.2)

-- a write behind a closed gate leaves it closed, and so does a cut behind it
pub shut_stays : (at n : ℕ) (d c : List ℕ) → 0 < at → IsShutOff d → Torn at n d c → IsShutOff c
shut_stays at n d c behind s torn = record { some = omega (arith, s.some, torn.no_shorter); shut = torn.below 0 s.some behind ∙ s.shut }

pub shut_cut : (d c : List ℕ) → IsShutOff d → Cut 1 d c → IsShutOff c
shut_cut d c s cut = record { some = omega (arith, s.some, cut.no_shorter); shut = cut.below 0 s.some (omega arith) ∙ s.shut }

-- what is in the file after the writes behind the gate
pub staged_front : (bytes d c : List ℕ) → IsShutOff d → Torn 1 (length bytes) d c → Holds c 1 bytes → c ≡ 0 ∷ bytes ++ drop (1 + length bytes) c
staged_front bytes d [] s torn holds = absurd (omega (arith, holds.within))
staged_front bytes d (x ∷ c) s torn holds =
    let shut : x ≡ 0 = torn.below 0 s.some (omega arith) ∙ s.shut in
    in_parts (x ∷ c) 1 (length bytes)
    ∙ ap (λ (g : ℕ). g ∷ (part (x ∷ c) 1 (length bytes) ++ drop (1 + length bytes) (x ∷ c))) shut
    ∙ ap (λ (l : List ℕ). 0 ∷ (l ++ drop (1 + length bytes) (x ∷ c))) (held_part (x ∷ c) 1 bytes holds)

pub staged_back : (front rest bytes d c : List ℕ) (at : ℕ) → d ≡ front ++ rest → at ≡ length front → Torn at (length bytes) d c → Holds c at bytes → c ≡ front ++ (bytes ++ drop (at + length bytes) c)
staged_back front rest bytes d c at is place torn holds =
    let kept : take at c ≡ front = torn_front at (length bytes) d c torn (omega (arith, ap length is, length-append front rest, place)) ∙ ap (λ (l : List ℕ). take at l) is ∙ take_at front rest at (sym place) in
    in_parts c at (length bytes)
    ∙ ap (λ (l : List ℕ). l ++ (part c at (length bytes) ++ drop (at + length bytes) c)) kept
    ∙ ap (λ (l : List ℕ). front ++ (l ++ drop (at + length bytes) c)) (held_part c at bytes holds)

-- a log of one text, behind the gate of its head
module _ (head : Head) (spells : head_at (head_text head) ≡ Some head) (text : List ℕ) (short : length text + 8 < 128 ^ 5) (junk : List ℕ) where
  abbrev two : List (List ℕ)
  two = sealed head.key (head_text head) ∷ sealed head.key text ∷ []

  are_short : AreShort two
  are_short = (omega arith, (omega (arith, short, length-sealed head.key text), tt))

  abbrev behind : List ℕ
  behind = drop 1 (frame (sealed head.key (head_text head))) ++ (frame (sealed head.key text) ++ 0 ∷ junk)

  pub rewritten_is : 215 ∷ behind ≡ at_rest two 1 junk
  rewritten_is =
      ap (λ (l : List ℕ). frame (sealed head.key (head_text head)) ++ (l ++ 0 ∷ junk)) (sym (append-nil (frame (sealed head.key text))))
      ∙ sym (append_assoc (frame (sealed head.key (head_text head))) (frame (sealed head.key text) ++ []) (0 ∷ junk))

  pub rewritten_has : HasTexts head (text ∷ []) (215 ∷ behind)
  rewritten_has = record {
    first = head_text head;
    is = spells;
    reads = subst (Reads two) (sym rewritten_is) (reads_at_rest two 1 junk are_short (omega arith));
  }

  pub staged_is : (d first second : List ℕ) → first ≡ frame (sealed head.key (head_text head)) → second ≡ frame (sealed head.key text) ++ 0 ∷ [] → d ≡ 0 ∷ (drop 1 first ++ (second ++ junk)) → d ≡ 0 ∷ behind
  staged_is d first second one other is =
      is ∙ ap (λ (l : List ℕ). 0 ∷ (drop 1 l ++ (second ++ junk))) one
      ∙ ap (λ (l : List ℕ). 0 ∷ (drop 1 (frame (sealed head.key (head_text head))) ++ (l ++ junk))) other
      ∙ ap (λ (l : List ℕ). 0 ∷ (drop 1 (frame (sealed head.key (head_text head))) ++ l)) (append_assoc (frame (sealed head.key text)) (0 ∷ []) junk)

  -- a torn gate
  pub gate_torn : (generation : ℕ) (d c : List ℕ) → d ≡ 0 ∷ behind → Torn 0 1 d c → IsOlder generation c ⊎ HasTexts head (text ∷ []) c
  gate_torn generation d c is torn =
      let first : c ≡ slice_index c 0 ∷ behind = torn_first d c (omega (arith, ap length is)) torn ∙ ap (λ (l : List ℕ). slice_index c 0 ∷ drop 1 l) is in
      elim (cases_eq (slice_index c 0) 215) [
        | inl open_gate ↦ inr (subst (HasTexts head (text ∷ [])) (sym (first ∙ ap (λ (g : ℕ). g ∷ behind) open_gate)) rewritten_has)
        | inr other ↦
            let batch = headed_batch (215 ∷ behind) head (texts_headed head (text ∷ []) (215 ∷ behind) rewritten_has) in
            inl (record {
              spare = inr (inr (head, same_batch (215 ∷ behind) c head (ap (λ (l : List ℕ). drop 11 l) first) batch));
              older = λ h headed. absurd (not_open_headed c other h headed);
            })
      ]

  pub gate_open : (d c : List ℕ) → d ≡ 0 ∷ behind → Torn 0 1 d c → Holds c 0 (215 ∷ []) → c ≡ at_rest two 1 junk
  gate_open d c is torn holds =
      torn_first d c (omega (arith, ap length is)) torn ∙ ap (λ (l : List ℕ). slice_index c 0 ∷ drop 1 l) is
      ∙ ap (λ (g : ℕ). g ∷ behind) (holds.each 0 (omega arith)) ∙ rewritten_is

  module _ {D : Type 0} (seen : D → List ℕ) (may_leave : D → List ℕ → Type 0) (file : FrameFile D) (room : file.room ≡ 1) (end : file.end ≡ length (frame (sealed head.key (head_text head))) + length (frame (sealed head.key text))) (whole : seen file.disk ≡ at_rest two 1 junk) (durable : Only (seen file.disk) (may_leave file.disk)) where
    two_rest : IsAtRest seen may_leave two file
    two_rest = record {
      junk = junk;
      is = whole ∙ ap (λ (n : ℕ). at_rest two n junk) (sym room);
      end =
          end ∙ ap (λ (l : List ℕ). length (frame (sealed head.key (head_text head))) + length l) (sym (append-nil (frame (sealed head.key text))))
          ∙ sym (length-append (frame (sealed head.key (head_text head))) (frame (sealed head.key text) ++ []));
      some = omega (arith, room);
      short = are_short;
      durable = durable;
    }

    two_batches : batches_of (seen file.disk) ≡ two
    two_batches = at_rest_are seen may_leave two file two_rest

    pub two_texts : texts_of (seen file.disk) ≡ text ∷ []
    two_texts = ap (λ (b : List (List ℕ)). map text_of (drop 1 b)) two_batches ∙ texts-sealed head.key (text ∷ [])

    pub two_kept : IsKept seen may_leave head file
    two_kept = record {
      first = head_text head;
      is = spells;
      rest = subst (λ (b : List (List ℕ)). IsAtRest seen may_leave b file) (sym two_batches) two_rest;
      sealed_all = two_batches ∙ ap (λ (t : List (List ℕ)). sealed head.key (head_text head) ∷ map (sealed head.key) t) (sym two_texts);
    }
