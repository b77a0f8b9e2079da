-- Frames are found again, and a frame of which a crash left some bytes zero is none.
use Rattle.std.proofs.Common.{◌≡◌, ◌≢◌, ◌⊎◌, inl, inr, ℕ, zero, suc, ◌+◌, ◌/◌, ◌^◌, ◌<◌, ◌≤◌, Bool, true, false, List, [], ◌∷◌, ◌++◌, length, slice_index, Some, None, refl, ◌∙◌, ap, arith, append_assoc, length-append}
use Rattle.std.specs.Bool.{⊤}
use Rattle.std.proofs.lemmas.List.{take_at, drop_at}
use Rattle.std.proofs.lemmas.Bool.{cases_eq}
use Rattle.std.proofs.lemmas.Bool.Decides.{nat_tests}
use Rattle.store_frames.specs.Frame.{zeros, marked, unmarked, are_marked, frame, counted, first_frame}

pub length-marked : (k n : ℕ) → length (marked k n) ≡ k
length-marked zero n = refl
length-marked (suc k) n = ap suc (length-marked k (n / 128))

pub marked_are : (k n : ℕ) → are_marked (marked k n) ≡ true
marked_are zero n = refl
marked_are (suc k) n = grind (arith, nat_tests, marked_are k (n / 128))

pub unmarked-marked : (k n : ℕ) → n < 128 ^ k → unmarked (marked k n) ≡ n
unmarked-marked zero n le = omega arith
unmarked-marked (suc k) n le = grind (arith, unmarked-marked k (n / 128))

pub zeros_few : (bytes : List ℕ) → zeros bytes ≤ length bytes
zeros_few [] = omega arith
zeros_few (b ∷ bytes) = grind (arith, nat_tests, zeros_few bytes)

pub zeros-append : (xs ys : List ℕ) → zeros (xs ++ ys) ≡ zeros xs + zeros ys
zeros-append [] ys = omega arith
zeros-append (x ∷ xs) ys = omega (arith, zeros-append xs ys)

pub are_marked-append : (xs ys : List ℕ) → are_marked xs ≡ true → are_marked ys ≡ true → are_marked (xs ++ ys) ≡ true
are_marked-append [] ys a b = b
are_marked-append (x ∷ xs) ys a b = grind (arith, nat_tests, are_marked-append xs ys)

-- the batch is whole behind its header
counted_whole : (batch rest : List ℕ) → counted (length batch) (zeros batch) (batch ++ rest) ≡ Some (batch, rest)
counted_whole batch rest = rw (take_at batch rest (length batch) refl, drop_at batch rest (length batch) refl) (grind (arith, nat_tests, length-append batch rest))

headed : (n z : ℕ) (rest : List ℕ) → n < 128 ^ 5 → z < 128 ^ 5 → first_frame ((215 ∷ marked 5 n ++ marked 5 z) ++ rest) ≡ counted n z rest
headed n z rest few less =
    let are = are_marked-append (marked 5 n) (marked 5 z) (marked_are 5 n) (marked_are 5 z) in
    let length_is = unmarked-marked 5 n few in
    let zeros_are = unmarked-marked 5 z less in
    rw (are, length_is, zeros_are) (grind (arith, nat_tests))

pub first_frame-frame : (batch rest : List ℕ) → length batch < 128 ^ 5 → first_frame (frame batch ++ rest) ≡ Some (batch, rest)
first_frame-frame batch rest few =
    headed (length batch) (zeros batch) (batch ++ rest) few (omega (arith, zeros_few batch)) ∙ counted_whole batch rest

-- each byte is kept or lost
abbrev pub Kept : List ℕ → List ℕ → Type 0
Kept [] [] = ⊤
Kept (x ∷ xs) (y ∷ ys) = ((x ≡ y) ⊎ (x ≡ 0)) × Kept xs ys
Kept [] (y ∷ ys) = ⊥
Kept (x ∷ xs) [] = ⊥

-- the same, said of each index
pub kept_by_index : (m f : List ℕ) → length m ≡ length f → ((i : ℕ) → i < length f → (slice_index m i ≡ slice_index f i) ⊎ (slice_index m i ≡ 0)) → Kept m f
kept_by_index [] [] same each = search
kept_by_index (x ∷ m) (y ∷ f) same each = (each 0 (omega arith), kept_by_index m f (omega (arith, same)) (λ i lt. each (suc i) (omega arith)))
kept_by_index [] (y ∷ f) same each = absurd (omega (arith, same))
kept_by_index (x ∷ m) [] same each = absurd (omega (arith, same))

pub length-kept : (m f : List ℕ) → Kept m f → length m ≡ length f
length-kept [] [] k = refl
length-kept (x ∷ m) (y ∷ f) k = ap suc (length-kept m f k.1)
length-kept [] (y ∷ f) k = absurd k
length-kept (x ∷ m) [] k = absurd k

pub marked_kept : (m f : List ℕ) → Kept m f → are_marked m ≡ true → m ≡ f
marked_kept [] [] k a = refl
marked_kept (x ∷ m) (y ∷ f) (inl e, k) a = grind (arith, nat_tests, marked_kept m f k)
marked_kept (x ∷ m) (y ∷ f) (inr e, k) a = grind (arith, nat_tests)
marked_kept [] (y ∷ f) k a = absurd k
marked_kept (x ∷ m) [] k a = absurd k

zeros_kept : (m f : List ℕ) → Kept m f → zeros f ≤ zeros m
zeros_kept [] [] k = omega arith
zeros_kept (x ∷ m) (y ∷ f) (inl e, k) = grind (arith, nat_tests, zeros_kept m f k)
zeros_kept (x ∷ m) (y ∷ f) (inr e, k) = grind (arith, nat_tests, zeros_kept m f k)
zeros_kept [] (y ∷ f) k = absurd k
zeros_kept (x ∷ m) [] k = absurd k

zeros_same : (m f : List ℕ) → Kept m f → zeros m ≡ zeros f → m ≡ f
zeros_same [] [] k s = refl
zeros_same (x ∷ m) (y ∷ f) (inl e, k) s = grind (arith, nat_tests, zeros_same m f k)
zeros_same (x ∷ m) (y ∷ f) (inr e, k) s = grind (arith, nat_tests, zeros_kept m f k, zeros_same m f k)
zeros_same [] (y ∷ f) k s = absurd k
zeros_same (x ∷ m) [] k s = absurd k

-- what was kept of two parts
pub record Parts (m f g : List ℕ) : Type 0 where
  pub front : List ℕ
  pub back : List ℕ
  pub whole : m ≡ front ++ back
  pub of_front : Kept front f
  pub of_back : Kept back g

pub kept_split : (m f g : List ℕ) → Kept m (f ++ g) → Parts m f g
kept_split m [] g k = record { front = []; back = m; whole = refl; of_front = search; of_back = k }
kept_split (x ∷ m) (y ∷ f) g k =
    let rest = kept_split m f g k.1 in record {
      front = x ∷ rest.front;
      back = rest.back;
      whole = ap (λ (l : List ℕ). x ∷ l) rest.whole;
      of_front = (k.0, rest.of_front);
      of_back = rest.of_back;
    }
kept_split [] (y ∷ f) g k = absurd k

truth : (b : Bool) → (b ≡ true) ⊎ (b ≡ false)
truth true = inl refl
truth false = inr refl

pub not_open : (gate : ℕ) (rest : List ℕ) → gate ≢ 215 → first_frame (gate ∷ rest) ≡ None
not_open gate rest shut = grind (arith, nat_tests)

not_marked : (gate : ℕ) (head rest : List ℕ) → length head ≡ 10 → are_marked head ≡ false → first_frame (gate ∷ (head ++ rest)) ≡ None
not_marked gate head rest ten un = rw (take_at head rest 10 ten, un) (grind (arith, nat_tests))

not_counted : (n z : ℕ) (batch rest : List ℕ) → length batch ≡ n → zeros batch ≢ z → counted n z (batch ++ rest) ≡ None
not_counted n z batch rest long other = rw (take_at batch rest n long) (grind (arith, nat_tests, other))

module _ (batch : List ℕ) (few : length batch < 128 ^ 5) where
  abbrev head : List ℕ
  head = marked 5 (length batch) ++ marked 5 (zeros batch)

  torn_counted : (p rest : List ℕ) → Kept p batch → (p ≡ batch) ⊎ (counted (length batch) (zeros batch) (p ++ rest) ≡ None)
  torn_counted p rest k = elim (cases_eq (zeros p) (zeros batch)) [
    | inl same ↦ inl (zeros_same p batch k same)
    | inr other ↦ inr (not_counted (length batch) (zeros batch) p rest (length-kept p batch k) other)
  ]

  torn_open : (h p rest : List ℕ) → Kept h head → Kept p batch → (215 ∷ (h ++ p) ≡ frame batch) ⊎ (first_frame (215 ∷ ((h ++ p) ++ rest)) ≡ None)
  torn_open h p rest kh kp = elim (truth (are_marked h)) [
    | inl are ↦
        let h_is = marked_kept h head kh are in
        elim (torn_counted p rest kp) [
          | inl whole ↦ inl (rw (h_is, whole) refl)
          | inr none ↦ inr (rw (h_is) (headed (length batch) (zeros batch) (p ++ rest) few (omega (arith, zeros_few batch)) ∙ none))
        ]
    | inr un ↦ inr (rw (append_assoc h p rest) (not_marked 215 h (p ++ rest) (length-kept h head kh ∙ refl) un))
  ]

  -- what a crash left of a frame is all of it, or no frame
  pub torn_frame : (m rest : List ℕ) → Kept m (frame batch) → (m ≡ frame batch) ⊎ (first_frame (m ++ rest) ≡ None)
  torn_frame [] rest k = absurd k
  torn_frame (g ∷ m) rest (inr lost, k) = inr (not_open g (m ++ rest) (omega arith))
  torn_frame (g ∷ m) rest (inl open_gate, k) =
      let parts = kept_split m head batch k in
      rw (open_gate, parts.whole) (torn_open parts.front parts.back rest parts.of_front parts.of_back)
