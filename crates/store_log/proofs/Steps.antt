-- What each write of an append may leave, and what is in the file once it is done.
use Rattle.std.proofs.Common.{◌≡◌, ℕ, zero, suc, ◌+◌, ◌-◌, ◌^◌, ◌<◌, List, [], ◌∷◌, ◌++◌, length, drop, replicate, refl, sym, ◌∙◌, ap, subst, arith, append_assoc}
use Rattle.sqlite_disk.specs.Disk.{Holds, Torn, Mixed, Follows, Only}
use Rattle.store_frames.specs.Frame.{frame, frames, Reads, AreShort, at_rest, IsBeforeOrAfter}
use Rattle.store_frames.proofs.Batches.{reads_at_rest}
use Rattle.store_log.proofs.Crash.{torn_once, done_once, torn_behind, done_behind, done_room, gate_kept, staged, torn_gate, done_gate}

module _ (batches : List (List ℕ)) (seen junk : List ℕ) (room end : ℕ) (file : seen ≡ at_rest batches room junk) (ends : end ≡ length (frames batches)) (short : AreShort batches) (some : 0 < room) where
  -- at rest
  pub rest_crash : (old : List ℕ → Type 0) → Only seen old → (c : List ℕ) → old c → Reads batches c
  rest_crash old only c left = subst (Reads batches) (sym (only c left ∙ file)) (reads_at_rest batches room junk short some)

  at_place : (n : ℕ) (s c : List ℕ) → s ≡ seen → Torn (end + 1) n s c → Torn (length (frames batches) + 1) n (at_rest batches room junk) c
  at_place n s c is torn = subst (λ (k : ℕ). Torn (k + 1) n (at_rest batches room junk) c) ends (subst (λ (o : List ℕ). Torn (end + 1) n o c) (is ∙ file) torn)

  -- a write behind the gate
  pub behind_crash : (n : ℕ) (old new : List ℕ → Type 0) → Only seen old → Follows (Torn (end + 1) n) old new → (c : List ℕ) → new c → Reads batches c
  behind_crash n old new only follows c left =
      let from = follows c left in
      torn_behind batches junk room short some n c (at_place n from.0 c (only from.0 from.1) from.2)

  pub room_done : (k : ℕ) (zeros c : List ℕ) → zeros ≡ replicate k 0 → Torn (end + 1) (length zeros) seen c → Holds c (end + 1) zeros → c ≡ at_rest batches (length zeros + 1) (drop (length (frames batches) + 1 + length zeros) c)
  room_done k zeros c are torn holds =
      let long : length zeros ≡ k = ap length are ∙ length-blanks k in
      let torn_too = at_place k seen c refl (subst (λ (n : ℕ). Torn (end + 1) n seen c) long torn) in
      let holds_too : Holds c (length (frames batches) + 1) (replicate k 0) = subst (λ (e : ℕ). Holds c (e + 1) (replicate k 0)) ends (subst (λ (z : List ℕ). Holds c (end + 1) z) are holds) in
      let plus : suc k ≡ length zeros + 1 = omega (arith, long) in
      done_room batches junk room short some k c torn_too holds_too
      ∙ ap (λ (n : ℕ). at_rest batches n (drop (length (frames batches) + 1 + k) c)) plus
      ∙ ap (λ (n : ℕ). at_rest batches (length zeros + 1) (drop (length (frames batches) + 1 + n) c)) (sym long)
    where
      length-blanks : (n : ℕ) → length (replicate {A = ℕ} n 0) ≡ n
      length-blanks zero = refl
      length-blanks (suc n) = ap suc (length-blanks n)

  pub room_failed : (n : ℕ) (c : List ℕ) → Torn (end + 1) n seen c → c ≡ at_rest batches 1 (drop (length (frames batches) + 1) c)
  room_failed n c torn =
      gate_kept batches junk room short some n c (at_place n seen c refl torn)
      ∙ append_assoc (frames batches) (0 ∷ []) (drop (length (frames batches) + 1) c)

  module _ (batch bytes : List ℕ) (few : length batch < 128 ^ 5) where
    -- one write over zeros
    module _ (is : bytes ≡ frame batch) (fits : length bytes < room) where
      same_length : length bytes ≡ length (frame batch)
      same_length = ap length is

      pub once_crash : (old new : List ℕ → Type 0) → Only seen old → Follows (Mixed end bytes) old new → (c : List ℕ) → new c → IsBeforeOrAfter batches batch c
      once_crash old new only follows c left =
          let from = follows c left in
          let mixed : Mixed (length (frames batches)) (frame batch) (at_rest batches room junk) c =
          subst (λ (k : ℕ). Mixed k (frame batch) (at_rest batches room junk) c) ends (subst (λ (b : List ℕ). Mixed end b (at_rest batches room junk) c) is (subst (λ (o : List ℕ). Mixed end bytes o c) (only from.0 from.1 ∙ file) from.2)) in
          torn_once batches batch junk room (room - length (frame batch)) short few (omega (arith, same_length)) (omega (arith, same_length)) c mixed

      pub once_done : (c : List ℕ) → Torn end (length bytes) seen c → Holds c end bytes → c ≡ at_rest (batches ++ batch ∷ []) (room - length bytes) junk
      once_done c torn holds =
          let torn_too : Torn (length (frames batches)) (length (frame batch)) (at_rest batches room junk) c =
          subst (λ (k : ℕ). Torn k (length (frame batch)) (at_rest batches room junk) c) ends (subst (λ (n : ℕ). Torn end n (at_rest batches room junk) c) same_length (subst (λ (o : List ℕ). Torn end (length bytes) o c) file torn)) in
          let holds_too : Holds c (length (frames batches)) (frame batch) = subst (λ (k : ℕ). Holds c k (frame batch)) ends (subst (λ (b : List ℕ). Holds c end b) is holds) in
          done_once batches batch junk room (room - length (frame batch)) short few (omega (arith, same_length)) (omega (arith, same_length)) c torn_too holds_too
          ∙ ap (λ (n : ℕ). at_rest (batches ++ batch ∷ []) (room - n) junk) (sym same_length)

    -- a write behind the gate, and then the gate
    module _ (is : bytes ≡ drop 1 (frame batch) ++ 0 ∷ []) where
      pub behind_done : (c : List ℕ) → Torn (end + 1) (length bytes) seen c → Holds c (end + 1) bytes → c ≡ staged batches batch (drop (length (frames batches) + 1 + length bytes) c) short few
      behind_done c torn holds =
          let after = drop (length (frames batches) + 1 + length bytes) c in
          done_behind batches junk room short some bytes c (at_place (length bytes) seen c refl torn) (subst (λ (k : ℕ). Holds c (k + 1) bytes) ends holds)
          ∙ ap (λ (b : List ℕ). frames batches ++ 0 ∷ (b ++ after)) is
          ∙ ap (λ (b : List ℕ). frames batches ++ 0 ∷ b) (append_assoc (drop 1 (frame batch)) (0 ∷ []) after)

module _ (batches : List (List ℕ)) (batch seen junk : List ℕ) (end : ℕ) (short : AreShort batches) (few : length batch < 128 ^ 5) (file : seen ≡ staged batches batch junk short few) (ends : end ≡ length (frames batches)) where
  gate_place : (s c : List ℕ) → s ≡ seen → Torn end 1 s c → Torn (length (frames batches)) 1 (staged batches batch junk short few) c
  gate_place s c is torn = subst (λ (k : ℕ). Torn k 1 (staged batches batch junk short few) c) ends (subst (λ (o : List ℕ). Torn end 1 o c) (is ∙ file) torn)

  pub gate_crash : (old new : List ℕ → Type 0) → Only seen old → Follows (Torn end 1) old new → (c : List ℕ) → new c → IsBeforeOrAfter batches batch c
  gate_crash old new only follows c left =
      let from = follows c left in
      torn_gate batches batch junk short few c (gate_place from.0 c (only from.0 from.1) from.2)

  pub gate_done : (c : List ℕ) → Torn end 1 seen c → Holds c end (215 ∷ []) → c ≡ at_rest (batches ++ batch ∷ []) 1 junk
  gate_done c torn holds = done_gate batches batch junk short few c (gate_place seen c refl torn) (subst (λ (k : ℕ). Holds c k (215 ∷ [])) ends holds)

module _ (batches : List (List ℕ)) (seen junk : List ℕ) (room end : ℕ) (file : seen ≡ at_rest batches room junk) (ends : end ≡ length (frames batches)) (short : AreShort batches) (some : 0 < room) (batch behind : List ℕ) (few : length batch < 128 ^ 5) (is : behind ≡ drop 1 (frame batch) ++ 0 ∷ []) (first : List ℕ) (torn : Torn (end + 1) (length behind) seen first) (holds : Holds first (end + 1) behind) where
  first_done : first ≡ staged batches batch (drop (length (frames batches) + 1 + length behind) first) short few
  first_done = behind_done batches seen junk room end file ends short some batch behind few is first torn holds

  -- the second of two writes, that of the gate
  pub twice_crash : (old new : List ℕ → Type 0) → Only first old → Follows (Torn end 1) old new → (c : List ℕ) → new c → IsBeforeOrAfter batches batch c
  twice_crash = gate_crash batches batch first (drop (length (frames batches) + 1 + length behind) first) end short few first_done ends

  pub twice_done : (c : List ℕ) → Torn end 1 first c → Holds c end (215 ∷ []) → c ≡ at_rest (batches ++ batch ∷ []) 1 (drop (length (frames batches) + 1 + length behind) first)
  twice_done = gate_done batches batch first (drop (length (frames batches) + 1 + length behind) first) end short few first_done ends
