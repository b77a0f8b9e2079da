-- A gate that a crash left torn is closed.
use Rattle.std.proofs.Common.{◌≡◌, ◌≢◌, inl, inr, ℕ, ◌+◌, ◌≤◌, List, [], ◌∷◌, ◌++◌, length, take, drop, length-drop, replicate, None, refl, sym, ◌∙◌, ap, subst, arith, append_assoc, length-append, take-append-drop}
use Rattle.std.proofs.lemmas.List.{take_at, drop-drop}
use Rattle.std.proofs.lemmas.Bool.{cases_eq}
use Rattle.std.proofs.lemmas.Bool.Decides.{nat_tests}
use Rattle.std.proofs.Math.Seq.{drop-append-add}
use Rattle.sqlite_disk.specs.Disk.{Holds, Torn, Follows, Only}
use Rattle.store_frames.specs.Frame.{frames, first_frame, Reads, AreShort, at_rest, NoGateOpens}
use Rattle.store_frames.proofs.Frames.{not_open}
use Rattle.store_frames.proofs.Batches.{reads_frames}
use Rattle.store_log.proofs.Ranges.{torn_front, torn_back, part, held_part, in_parts}

pub nothing_opens : NoGateOpens []
nothing_opens gate = grind (arith, nat_tests)

pub open_already : (t : List ℕ) → first_frame (215 ∷ t) ≡ None → NoGateOpens (215 ∷ t)
open_already t none gate = elim (cases_eq gate 215) [
  | inl is ↦ ap (λ (g : ℕ). first_frame (g ∷ t)) is ∙ none
  | inr other ↦ not_open gate t other
]

pub unmarked_opens : (g : ℕ) (t : List ℕ) → NoGateOpens (g ∷ 0 ∷ t)
unmarked_opens g t gate = grind (arith, nat_tests)

module _ (batches : List (List ℕ)) (tail : List ℕ) (short : AreShort batches) where
  size : length (frames batches ++ tail) ≡ length (frames batches) + length tail
  size = length-append (frames batches) tail

  front : (n : ℕ) (c : List ℕ) → Torn (length (frames batches)) n (frames batches ++ tail) c → take (length (frames batches)) c ≡ frames batches
  front n c torn =
      torn_front (length (frames batches)) n (frames batches ++ tail) c torn (omega (arith, size)) ∙ take_at (frames batches) tail (length (frames batches)) refl

  -- behind one byte at the end stands what stood there
  behind_gate : (c : List ℕ) → Torn (length (frames batches)) 1 (frames batches ++ tail) c → drop (length (frames batches) + 1) c ≡ drop 1 tail
  behind_gate c torn = go tail refl
    where
      at : ℕ
      at = length (frames batches)

      go : (t : List ℕ) → t ≡ tail → drop (length (frames batches) + 1) c ≡ drop 1 tail
      go [] is =
          let few : length c ≤ length (frames batches) + 1 = omega (arith, torn.no_longer, size, ap length is) in
          nil_of (drop (length (frames batches) + 1) c) (omega (arith, few, length-drop (length (frames batches) + 1) c)) ∙ ap (λ (l : List ℕ). drop 1 l) is
        where
          nil_of : (l : List ℕ) → length l ≡ 0 → l ≡ []
          nil_of [] e = refl
          nil_of (x ∷ l) e = absurd (omega (arith, e))
      go (g ∷ t) is =
          torn_back (length (frames batches)) 1 (frames batches ++ tail) c torn (omega (arith, size, ap length is)) ∙ drop-append-add (frames batches) tail 1

  any_gate : (rest : List ℕ) → NoGateOpens tail → drop 1 rest ≡ drop 1 tail → first_frame rest ≡ None
  any_gate [] opens is = grind (arith, nat_tests)
  any_gate (g ∷ rest) opens is = ap (λ (l : List ℕ). first_frame (g ∷ l)) is ∙ opens g

  -- a crash in the write of the closed gate
  pub shut_crash : (c : List ℕ) → NoGateOpens tail → Torn (length (frames batches)) 1 (frames batches ++ tail) c → Reads batches c
  shut_crash c opens torn =
      let at = length (frames batches) in
      let whole : c ≡ frames batches ++ drop at c = sym (take-append-drop at c) ∙ ap (λ (l : List ℕ). l ++ drop at c) (front 1 c torn) in
      let rest_is : drop 1 (drop at c) ≡ drop 1 tail = drop_drop at c ∙ behind_gate c torn in
      subst (Reads batches) (sym whole) (reads_frames batches (drop at c) short (any_gate (drop at c) opens rest_is))
    where
      drop_drop : (k : ℕ) (l : List ℕ) → drop 1 (drop k l) ≡ drop (k + 1) l
      drop_drop k l = search drop-drop

  pub shut_done : (c : List ℕ) → Torn (length (frames batches)) 1 (frames batches ++ tail) c → Holds c (length (frames batches)) (0 ∷ []) → c ≡ at_rest batches 1 (drop 1 tail)
  shut_done c torn holds =
      let at = length (frames batches) in
      in_parts c at 1 ∙ ap (λ (l : List ℕ). l ++ (part c at 1 ++ drop (at + 1) c)) (front 1 c torn)
      ∙ ap (λ (l : List ℕ). frames batches ++ (l ++ drop (at + 1) c)) (held_part c at (0 ∷ []) holds)
      ∙ ap (λ (l : List ℕ). frames batches ++ 0 ∷ l) (behind_gate c torn)

module _ (batches : List (List ℕ)) (gate : ℕ) (t : List ℕ) (short : AreShort batches) (shut : gate ≢ 215) where
  apart : frames batches ++ gate ∷ t ≡ (frames batches ++ gate ∷ []) ++ t
  apart = sym (append_assoc (frames batches) (gate ∷ []) t)

  length-apart : length (frames batches ++ gate ∷ []) ≡ length (frames batches) + 1
  length-apart = length-append (frames batches) (gate ∷ [])

  kept_gate : (n : ℕ) (c : List ℕ) → Torn (length (frames batches) + 1) n (frames batches ++ gate ∷ t) c → c ≡ frames batches ++ gate ∷ drop (length (frames batches) + 1) c
  kept_gate n c torn =
      let at = length (frames batches) + 1 in
      let long : at ≤ length (frames batches ++ gate ∷ t) = omega (arith, length-append (frames batches) (gate ∷ t)) in
      sym (take-append-drop at c)
      ∙ ap (λ (l : List ℕ). l ++ drop at c) (torn_front at n (frames batches ++ gate ∷ t) c torn long ∙ ap (λ (l : List ℕ). take at l) apart ∙ take_at (frames batches ++ gate ∷ []) t at length-apart)
      ∙ append_assoc (frames batches) (gate ∷ []) (drop at c)

  -- a crash in a write behind a gate that isn't open
  pub spoil_crash : (n : ℕ) (c : List ℕ) → Torn (length (frames batches) + 1) n (frames batches ++ gate ∷ t) c → Reads batches c
  spoil_crash n c torn =
      let rest = drop (length (frames batches) + 1) c in
      subst (Reads batches) (sym (kept_gate n c torn)) (reads_frames batches (gate ∷ rest) short (not_open gate rest shut))

  pub spoil_done : (c : List ℕ) → Torn (length (frames batches) + 1) 1 (frames batches ++ gate ∷ t) c → Holds c (length (frames batches) + 1) (0 ∷ []) → c ≡ frames batches ++ gate ∷ 0 ∷ drop (length (frames batches) + 1 + 1) c
  spoil_done c torn holds =
      let at = length (frames batches) + 1 in
      kept_gate 1 c torn
      ∙ ap (λ (l : List ℕ). frames batches ++ gate ∷ l) (sym (take-append-drop 1 (drop at c)) ∙ ap (λ (l : List ℕ). l ++ drop 1 (drop at c)) (held_part c at (0 ∷ []) holds) ∙ ap (λ (l : List ℕ). 0 ∷ l) (drop_drop at c))
    where
      drop_drop : (k : ℕ) (l : List ℕ) → drop 1 (drop k l) ≡ drop (k + 1) l
      drop_drop k l = search drop-drop

module _ (batches : List (List ℕ)) (tail seen : List ℕ) (end : ℕ) (file : seen ≡ frames batches ++ tail) (ends : end ≡ length (frames batches)) (short : AreShort batches) where
  -- nothing was written yet
  pub ends_crash : (old : List ℕ → Type 0) → first_frame tail ≡ None → Only seen old → (c : List ℕ) → old c → Reads batches c
  ends_crash old none only c left = subst (Reads batches) (sym (only c left ∙ file)) (reads_frames batches tail short none)

  placed : (at n k : ℕ) (s c : List ℕ) → s ≡ seen → at ≡ k → Torn at n s c → Torn k n (frames batches ++ tail) c
  placed at n k s c is same torn = subst (λ (j : ℕ). Torn j n (frames batches ++ tail) c) same (subst (λ (o : List ℕ). Torn at n o c) (is ∙ file) torn)

  pub gate_shut_crash : (old new : List ℕ → Type 0) → NoGateOpens tail → Only seen old → Follows (Torn end 1) old new → (c : List ℕ) → new c → Reads batches c
  gate_shut_crash old new opens only follows c left =
      let from = follows c left in
      shut_crash batches tail short c opens (placed end 1 (length (frames batches)) from.0 c (only from.0 from.1) ends from.2)

  pub gate_shut_done : (c : List ℕ) → Torn end 1 seen c → Holds c end (0 ∷ []) → c ≡ at_rest batches 1 (drop 1 tail)
  gate_shut_done c torn holds =
      shut_done batches tail short c (placed end 1 (length (frames batches)) seen c refl ends torn) (subst (λ (k : ℕ). Holds c k (0 ∷ [])) ends holds)

  module _ (gate : ℕ) (t : List ℕ) (is : tail ≡ gate ∷ t) (shut : gate ≢ 215) where
    behind_one : end + 1 ≡ length (frames batches) + 1
    behind_one = ap (λ (k : ℕ). k + 1) ends

    pub spoiled_crash : (old new : List ℕ → Type 0) → Only seen old → Follows (Torn (end + 1) 1) old new → (c : List ℕ) → new c → Reads batches c
    spoiled_crash old new only follows c left =
        let from = follows c left in
        spoil_crash batches gate t short shut 1 c (subst (λ (l : List ℕ). Torn (length (frames batches) + 1) 1 (frames batches ++ l) c) is (placed (end + 1) 1 (length (frames batches) + 1) from.0 c (only from.0 from.1) behind_one from.2))

    pub spoiled_done : (c : List ℕ) → Torn (end + 1) 1 seen c → Holds c (end + 1) (0 ∷ []) → c ≡ frames batches ++ gate ∷ 0 ∷ drop (length (frames batches) + 1 + 1) c
    spoiled_done c torn holds =
        spoil_done batches gate t short shut c (subst (λ (l : List ℕ). Torn (length (frames batches) + 1) 1 (frames batches ++ l) c) is (placed (end + 1) 1 (length (frames batches) + 1) seen c refl behind_one torn))
        (subst (λ (k : ℕ). Holds c k (0 ∷ [])) behind_one holds)

pub opens_by_gate : (tail t : List ℕ) (gate : ℕ) → tail ≡ gate ∷ t → gate ≡ 215 → first_frame tail ≡ None → NoGateOpens tail
opens_by_gate tail t gate is open_gate none =
    let whole : tail ≡ 215 ∷ t = is ∙ ap (λ (g : ℕ). g ∷ t) open_gate in
    subst NoGateOpens (sym whole) (open_already t (ap first_frame (sym whole) ∙ none))

-- a file whose frames end in closed gates
pub shut_already : (batches : List (List ℕ)) (tail : List ℕ) (room : ℕ) → tail ≡ replicate room 0 ++ drop room tail → (seen : List ℕ) → seen ≡ frames batches ++ tail → seen ≡ at_rest batches room (drop room tail)
shut_already batches tail room zeros seen file = file ∙ ap (λ (l : List ℕ). frames batches ++ l) zeros
