-- What a file has after a crash in each write of an append.
use Rattle.std.proofs.Common.{◌≡◌, inl, inr, ℕ, zero, suc, ◌+◌, ◌-◌, ◌^◌, ◌<◌, ◌≤◌, List, [], ◌∷◌, ◌++◌, length, take, drop, replicate, slice_index, refl, sym, ◌∙◌, ap, subst, arith, append_assoc, length-append, take-append-drop}
use Rattle.std.proofs.lemmas.List.{take_at, drop_at, get_or-append-add, drop-drop}
use Rattle.std.proofs.Math.Seq.{drop-append-add}
use Rattle.std.proofs.lemmas.Bool.{cases_eq}
use Rattle.sqlite_disk.specs.Disk.{Holds, Torn, Mixed}
use Rattle.store_frames.specs.Frame.{frame, frames, Reads, AreShort, at_rest, IsBeforeOrAfter}
use Rattle.store_frames.proofs.Frames.{Kept, kept_by_index, not_open, torn_frame}
use Rattle.store_frames.proofs.Batches.{reads_frames, frames-push, short-push, reads_closed, reads_at_rest, length-zeros, zeros_split, zero_index}
use Rattle.store_log.proofs.Ranges.{torn_front, torn_back, part, held_part, in_parts, part_index, length-part}

-- a write over zeros leaves each byte written or zero
pub mixed_middle : (front bytes rest new : List ℕ) → Mixed (length front) bytes (front ++ (replicate (length bytes) 0 ++ rest)) new → Kept (part new (length front) (length bytes)) bytes
mixed_middle front bytes rest new mixed =
    let n = length bytes in
    let at = length front in
    let old : List ℕ = front ++ (replicate n 0 ++ rest) in
    let size : length old ≡ at + (n + length rest) = omega (arith, length-append front (replicate n 0 ++ rest), length-append (replicate n 0) rest, length-zeros n) in
    let long : length (part new at n) ≡ n = length-part new at n (omega (arith, mixed.torn.no_shorter, size)) in
    kept_by_index (part new at n) bytes long (λ i lt.
    let here = part_index new at n i lt in
    let was : slice_index old (at + i) ≡ 0 = get_or-append-add front (replicate n 0 ++ rest) i 0 ∙ zero_index n i rest lt in
    elim (mixed.each i lt (omega (arith, size))) [
      | inl kept ↦ inr (here ∙ kept ∙ was)
      | inr new ↦ inl (here ∙ new)
    ])

module _ (batches : List (List ℕ)) (batch junk : List ℕ) (room left : ℕ) (short : AreShort batches) (few : length batch < 128 ^ 5) (fits : room ≡ length (frame batch) + left) (some : 0 < left) where
  -- the zeros under the frame apart
  old_parts : at_rest batches room junk ≡ frames batches ++ (replicate (length (frame batch)) 0 ++ (replicate left 0 ++ junk))
  old_parts = ap (λ (l : List ℕ). frames batches ++ l) (zeros_split (length (frame batch)) left room junk fits)

  size : length (at_rest batches room junk) ≡ length (frames batches) + (length (frame batch) + (left + length junk))
  size = omega (arith, length-append (frames batches) (replicate room 0 ++ junk), length-append (replicate room 0) junk, length-zeros room, fits)

  back : drop (length (frames batches) + length (frame batch)) (at_rest batches room junk) ≡ replicate left 0 ++ junk
  back =
      ap (λ (l : List ℕ). drop (length (frames batches) + length (frame batch)) l) old_parts
      ∙ drop-append-add (frames batches) (replicate (length (frame batch)) 0 ++ (replicate left 0 ++ junk)) (length (frame batch))
      ∙ drop_at (replicate (length (frame batch)) 0) (replicate left 0 ++ junk) (length (frame batch)) (length-zeros (length (frame batch)))

  beside : (c : List ℕ) → Torn (length (frames batches)) (length (frame batch)) (at_rest batches room junk) c → c ≡ frames batches ++ (part c (length (frames batches)) (length (frame batch)) ++ (replicate left 0 ++ junk))
  beside c torn =
      let at = length (frames batches) in
      let n = length (frame batch) in
      let front : take at c ≡ frames batches = torn_front at n (at_rest batches room junk) c torn (omega (arith, size)) ∙ take_at (frames batches) (replicate room 0 ++ junk) at refl in
      let behind_is : drop (at + n) c ≡ replicate left 0 ++ junk = torn_back at n (at_rest batches room junk) c torn (omega (arith, size)) ∙ back in
      in_parts c at n ∙ ap (λ (l : List ℕ). l ++ (part c at n ++ drop (at + n) c)) front ∙ ap (λ (l : List ℕ). frames batches ++ (part c at n ++ l)) behind_is

  one_more : (c m : List ℕ) → c ≡ frames batches ++ (m ++ (replicate left 0 ++ junk)) → m ≡ frame batch → c ≡ at_rest (batches ++ batch ∷ []) left junk
  one_more c m is same =
      is ∙ ap (λ (l : List ℕ). frames batches ++ (l ++ (replicate left 0 ++ junk))) same
      ∙ sym (append_assoc (frames batches) (frame batch) (replicate left 0 ++ junk))
      ∙ ap (λ (l : List ℕ). l ++ (replicate left 0 ++ junk)) (sym (frames-push batches batch))

  -- a crash in the one write leaves the batches from before it, or these and the new one
  pub torn_once : (c : List ℕ) → Mixed (length (frames batches)) (frame batch) (at_rest batches room junk) c → IsBeforeOrAfter batches batch c
  torn_once c mixed =
      let at = length (frames batches) in
      let m = part c at (length (frame batch)) in
      let rest : List ℕ = replicate left 0 ++ junk in
      let whole : c ≡ frames batches ++ (m ++ rest) = beside c mixed.torn in
      let kept : Kept m (frame batch) = mixed_middle (frames batches) (frame batch) rest c (subst (λ (o : List ℕ). Mixed at (frame batch) o c) old_parts mixed) in
      elim (torn_frame batch few m rest kept) [
        | inl same ↦ inr (subst (Reads (batches ++ batch ∷ [])) (sym (one_more c m whole same)) (reads_at_rest (batches ++ batch ∷ []) left junk (short-push batches batch short few) some))
        | inr none ↦ inl (subst (Reads batches) (sym whole) (reads_frames batches (m ++ rest) short none))
      ]

  -- what is there once it is done
  pub done_once : (c : List ℕ) → Torn (length (frames batches)) (length (frame batch)) (at_rest batches room junk) c → Holds c (length (frames batches)) (frame batch) → c ≡ at_rest (batches ++ batch ∷ []) left junk
  done_once c torn holds = one_more c (part c (length (frames batches)) (length (frame batch))) (beside c torn) (held_part c (length (frames batches)) (frame batch) holds)

module _ (batches : List (List ℕ)) (junk : List ℕ) (room : ℕ) (short : AreShort batches) (some : 0 < room) where
  gate_apart : (room : ℕ) → 0 < room → at_rest batches room junk ≡ (frames batches ++ 0 ∷ []) ++ (replicate (room - 1) 0 ++ junk)
  gate_apart zero some = absurd (omega arith)
  gate_apart (suc room) some =
      let less : room ≡ suc room - 1 = omega arith in
      sym (append_assoc (frames batches) (0 ∷ []) (replicate room 0 ++ junk)) ∙ ap (λ (n : ℕ). (frames batches ++ 0 ∷ []) ++ (replicate n 0 ++ junk)) less

  length-gate : length (frames batches ++ 0 ∷ []) ≡ length (frames batches) + 1
  length-gate = length-append (frames batches) (0 ∷ [])

  pub gate_kept : (n : ℕ) (c : List ℕ) → Torn (length (frames batches) + 1) n (at_rest batches room junk) c → c ≡ (frames batches ++ 0 ∷ []) ++ drop (length (frames batches) + 1) c
  gate_kept n c torn =
      let at = length (frames batches) + 1 in
      let long : at ≤ length (at_rest batches room junk) = omega (arith, ap length (gate_apart room some), length-append (frames batches ++ 0 ∷ []) (replicate (room - 1) 0 ++ junk), length-gate) in
      let front : take at c ≡ frames batches ++ 0 ∷ [] =
      torn_front at n (at_rest batches room junk) c torn long ∙ ap (λ (l : List ℕ). take at l) (gate_apart room some) ∙ take_at (frames batches ++ 0 ∷ []) (replicate (room - 1) 0 ++ junk) at length-gate in
      sym (take-append-drop at c) ∙ ap (λ (l : List ℕ). l ++ drop at c) front

  -- a crash in a write behind the gate leaves the same batches
  pub torn_behind : (n : ℕ) (c : List ℕ) → Torn (length (frames batches) + 1) n (at_rest batches room junk) c → Reads batches c
  torn_behind n c torn =
      let at = length (frames batches) + 1 in
      subst (Reads batches) (sym (gate_kept n c torn ∙ append_assoc (frames batches) (0 ∷ []) (drop at c))) (reads_closed batches (drop at c) short)

  -- what is there once bytes are written behind the gate
  pub done_behind : (bytes c : List ℕ) → Torn (length (frames batches) + 1) (length bytes) (at_rest batches room junk) c → Holds c (length (frames batches) + 1) bytes → c ≡ frames batches ++ 0 ∷ (bytes ++ drop (length (frames batches) + 1 + length bytes) c)
  done_behind bytes c torn holds =
      let at = length (frames batches) + 1 in
      gate_kept (length bytes) c torn ∙ append_assoc (frames batches) (0 ∷ []) (drop at c)
      ∙ ap (λ (l : List ℕ). frames batches ++ 0 ∷ l) (sym (take-append-drop (length bytes) (drop at c)) ∙ ap (λ (l : List ℕ). l ++ drop (length bytes) (drop at c)) (held_part c at bytes holds) ∙ ap (λ (l : List ℕ). bytes ++ l) (drop-drop (length bytes) at c))

  pub done_room : (k : ℕ) (c : List ℕ) → Torn (length (frames batches) + 1) k (at_rest batches room junk) c → Holds c (length (frames batches) + 1) (replicate k 0) → c ≡ at_rest batches (suc k) (drop (length (frames batches) + 1 + k) c)
  done_room k c torn holds =
      let is = done_behind (replicate k 0) c (subst (λ (n : ℕ). Torn (length (frames batches) + 1) n (at_rest batches room junk) c) (sym (length-zeros k)) torn) holds in
      is ∙ ap (λ (n : ℕ). frames batches ++ 0 ∷ (replicate k 0 ++ drop (length (frames batches) + 1 + n) c)) (length-zeros k)

module _ (batches : List (List ℕ)) (batch junk : List ℕ) (short : AreShort batches) (few : length batch < 128 ^ 5) where
  -- a frame whose gate is still closed, with a closed gate behind it
  abbrev pub staged : List ℕ
  staged = frames batches ++ 0 ∷ (drop 1 (frame batch) ++ 0 ∷ junk)

  gate_beside : (c : List ℕ) → Torn (length (frames batches)) 1 staged c → c ≡ frames batches ++ (part c (length (frames batches)) 1 ++ (drop 1 (frame batch) ++ 0 ∷ junk))
  gate_beside c torn =
      let at = length (frames batches) in
      let rest : List ℕ = drop 1 (frame batch) ++ 0 ∷ junk in
      let size : length staged ≡ at + (1 + length rest) = omega (arith, length-append (frames batches) (0 ∷ rest)) in
      let front : take at c ≡ frames batches = torn_front at 1 staged c torn (omega (arith, size)) ∙ take_at (frames batches) (0 ∷ rest) at refl in
      let behind_is : drop (at + 1) c ≡ rest = torn_back at 1 staged c torn (omega (arith, size)) ∙ drop-append-add (frames batches) (0 ∷ rest) 1 in
      in_parts c at 1 ∙ ap (λ (l : List ℕ). l ++ (part c at 1 ++ drop (at + 1) c)) front ∙ ap (λ (l : List ℕ). frames batches ++ (part c at 1 ++ l)) behind_is

  opened : (c : List ℕ) → c ≡ frames batches ++ (frame batch ++ 0 ∷ junk) → c ≡ at_rest (batches ++ batch ∷ []) 1 junk
  opened c is = is ∙ sym (append_assoc (frames batches) (frame batch) (0 ∷ junk)) ∙ ap (λ (l : List ℕ). l ++ 0 ∷ junk) (sym (frames-push batches batch))

  one_byte : (gate : ℕ) (rest c : List ℕ) → c ≡ frames batches ++ gate ∷ rest → rest ≡ drop 1 (frame batch) ++ 0 ∷ junk → IsBeforeOrAfter batches batch c
  one_byte gate rest c is behind_is = elim (cases_eq gate 215) [
    | inl open_gate ↦
        let whole : c ≡ at_rest (batches ++ batch ∷ []) 1 junk =
        opened c (is ∙ ap (λ (g : ℕ). frames batches ++ g ∷ rest) open_gate ∙ ap (λ (l : List ℕ). frames batches ++ 215 ∷ l) behind_is) in
        inr (subst (Reads (batches ++ batch ∷ [])) (sym whole) (reads_at_rest (batches ++ batch ∷ []) 1 junk (short-push batches batch short few) (omega arith)))
    | inr shut ↦ inl (subst (Reads batches) (sym is) (reads_frames batches (gate ∷ rest) short (not_open gate rest shut)))
  ]

  gate_of : (bytes : List ℕ) → length bytes ≡ 1 → bytes ≡ slice_index bytes 0 ∷ []
  gate_of [] one = absurd (omega (arith, one))
  gate_of (b ∷ []) one = refl
  gate_of (b ∷ a ∷ more) one = absurd (omega (arith, one))

  -- a crash in the write of the gate leaves the batches from before it, or these and the new one
  pub torn_gate : (c : List ℕ) → Torn (length (frames batches)) 1 staged c → IsBeforeOrAfter batches batch c
  torn_gate c torn =
      let at = length (frames batches) in
      let rest : List ℕ = drop 1 (frame batch) ++ 0 ∷ junk in
      let size : length staged ≡ at + (1 + length rest) = omega (arith, length-append (frames batches) (0 ∷ rest)) in
      let long : length (part c at 1) ≡ 1 = length-part c at 1 (omega (arith, torn.no_shorter, size)) in
      one_byte (slice_index (part c at 1) 0) rest c (gate_beside c torn ∙ ap (λ (l : List ℕ). frames batches ++ (l ++ rest)) (gate_of (part c at 1) long)) refl

  pub done_gate : (c : List ℕ) → Torn (length (frames batches)) 1 staged c → Holds c (length (frames batches)) (215 ∷ []) → c ≡ at_rest (batches ++ batch ∷ []) 1 junk
  done_gate c torn holds = opened c (gate_beside c torn ∙ ap (λ (l : List ℕ). frames batches ++ (l ++ (drop 1 (frame batch) ++ 0 ∷ junk))) (held_part c (length (frames batches)) (215 ∷ []) holds))
