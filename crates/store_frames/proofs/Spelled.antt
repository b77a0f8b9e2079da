-- What is read as a frame is spelled as that frame.
use Rattle.std.proofs.Common.{◌≡◌, ℕ, zero, suc, ◌+◌, ◌-◌, ◌*◌, ◌/◌, ◌%◌, ◌^◌, ◌<◌, ◌≤◌, ◌==◌, nat_le, Bool, true, false, ◌&&◌, if◌then◌else◌, List, [], ◌∷◌, ◌++◌, length, length-drop, take, drop, replicate, get_or, slice_index, Option, Some, None, refl, sym, ◌∙◌, ap, subst, arith, append_assoc, length-append, take-append-drop}
use Rattle.std.specs.List.{AllByRecursion}
use Rattle.std.proofs.lemmas.List.{drop_at, drop-drop, drop_more, length-take-le}
use Rattle.std.proofs.lemmas.Bool.Decides.{nat_tests}
use Rattle.std.proofs.lemmas.Grind.{common_steps}
use Rattle.store_frames.specs.Frame.{zeros, marked, unmarked, are_marked, frame, frames, counted, first_frame, Reads, AreShort, Begun, Scanned, going_on, first_batches, batches_of}
use Rattle.store_frames.proofs.Batches.{frames-push, short-push, zeros_split, batches_are, before, behind, none_some}

-- each is a byte
abbrev pub AreBytes : List ℕ → Type 0
AreBytes bytes = AllByRecursion (λ b. b < 256) bytes

pub bytes-take : (n : ℕ) (bytes : List ℕ) → AreBytes bytes → AreBytes (take n bytes)
bytes-take zero bytes are = search
bytes-take (suc n) [] are = search
bytes-take (suc n) (b ∷ bytes) are = (are.0, bytes-take n bytes are.1)

pub bytes-drop : (n : ℕ) (bytes : List ℕ) → AreBytes bytes → AreBytes (drop n bytes)
bytes-drop zero bytes are = are
bytes-drop (suc n) [] are = search
bytes-drop (suc n) (b ∷ bytes) are = bytes-drop n bytes are.1

unmarked_small : (k : ℕ) (bytes : List ℕ) → length bytes ≡ k → unmarked bytes < 128 ^ k
unmarked_small zero [] long = omega arith
unmarked_small (suc k) (b ∷ bytes) long = grind (arith, unmarked_small k bytes (omega (arith, long)))
unmarked_small zero (b ∷ bytes) long = absurd (omega (arith, long))
unmarked_small (suc k) [] long = absurd (omega (arith, long))

digit : (b : ℕ) → 128 ≤ b → b < 256 → b ≡ 128 + b % 128
digit b big small = grind arith

digit_last : (b n : ℕ) → (b % 128 + 128 * n) % 128 ≡ b % 128
digit_last b n = grind arith

digits_rest : (b n : ℕ) → (b % 128 + 128 * n) / 128 ≡ n
digits_rest b n = grind arith

marked-unmarked : (k : ℕ) (bytes : List ℕ) → length bytes ≡ k → are_marked bytes ≡ true → AreBytes bytes → marked k (unmarked bytes) ≡ bytes
marked-unmarked zero [] long are small = refl
marked-unmarked (suc k) (b ∷ bytes) long are small =
    let rest : marked k (unmarked bytes) ≡ bytes = marked-unmarked k bytes (omega (arith, long)) (grind (arith, nat_tests, are)) small.1 in
    let big : 128 ≤ b = grind (arith, nat_tests, are) in
    rw (digit_last b (unmarked bytes), digits_rest b (unmarked bytes), rest) (ap (λ (d : ℕ). d ∷ bytes) (sym (digit b big small.0)))
marked-unmarked zero (b ∷ bytes) long are small = absurd (omega (arith, long))
marked-unmarked (suc k) [] long are small = absurd (omega (arith, long))

picked_test : (ok : Bool) (o : Option (List ℕ × List ℕ)) (p : List ℕ × List ℕ) → (if ok then o else None) ≡ Some p → ok ≡ true
picked_test true o p e = refl
picked_test false o p e = absurd (none_some p e)

picked_is : (ok : Bool) (o : Option (List ℕ × List ℕ)) (p : List ℕ × List ℕ) → (if ok then o else None) ≡ Some p → o ≡ Some p
picked_is true o p e = e
picked_is false o p e = absurd (none_some p e)

both_left : (a b : Bool) → (a && b) ≡ true → a ≡ true
both_left true b e = refl
both_left false b e = e

both_right : (a b : Bool) → (a && b) ≡ true → b ≡ true
both_right true b e = e
both_right false b e = absurd (false_true e)
  where
    false_true : false ≡ true → ⊥
    false_true e = grind (arith, e)

are_marked_left : (xs ys : List ℕ) → are_marked (xs ++ ys) ≡ true → are_marked xs ≡ true
are_marked_left [] ys e = refl
are_marked_left (x ∷ xs) ys e = grind (arith, nat_tests, are_marked_left xs ys, e)

are_marked_right : (xs ys : List ℕ) → are_marked (xs ++ ys) ≡ true → are_marked ys ≡ true
are_marked_right [] ys e = e
are_marked_right (x ∷ xs) ys e = grind (arith, nat_tests, are_marked_right xs ys, e)

take_ten : (t : List ℕ) → take 5 t ++ take 5 (drop 5 t) ≡ take 10 t
take_ten t = search (arith, common_steps)

pub record Spelled (file batch rest : List ℕ) : Type 0 where
  pub whole : file ≡ frame batch ++ rest
  pub few : length batch < 128 ^ 5

in_three : (t : List ℕ) → t ≡ take 5 t ++ (take 5 (drop 5 t) ++ drop 10 t)
in_three t =
    sym (take-append-drop 5 t) ∙ ap (λ (l : List ℕ). take 5 t ++ l) (sym (take-append-drop 5 (drop 5 t)) ∙ ap (λ (l : List ℕ). take 5 (drop 5 t) ++ l) (drop-drop 5 5 t))

spelled_cons : (g : ℕ) (t batch rest : List ℕ) → AreBytes t → first_frame (g ∷ t) ≡ Some (batch, rest) → Spelled (g ∷ t) batch rest
spelled_cons g t batch rest are e =
    let n = unmarked (take 5 t) in
    let z = unmarked (take 5 (drop 5 t)) in
    let body = drop 10 t in
    let test : (nat_le 11 (suc (length t)) && (g == 215) && are_marked (take 10 t)) ≡ true = picked_test _ (counted n z body) (batch, rest) e in
    let found : counted n z body ≡ Some (batch, rest) = picked_is _ (counted n z body) (batch, rest) e in
    let t1 = nat_le 11 (suc (length t)) in
    let t2 = g == 215 in
    let t3 = are_marked (take 10 t) in
    let two : (t1 && t2) ≡ true = both_left (t1 && t2) t3 test in
    let one : nat_le 11 (suc (length t)) ≡ true = both_left t1 t2 two in
    let is_gate : (g == 215) ≡ true = both_right t1 t2 two in
    let long : 10 ≤ length t = grind (arith, nat_tests, one) in
    let gate : g ≡ 215 = grind (arith, nat_tests, is_gate) in
    let marks : are_marked (take 5 t ++ take 5 (drop 5 t)) ≡ true = ap are_marked (take_ten t) ∙ both_right (t1 && t2) t3 test in
    let inner = picked_test (nat_le n (length body) && (zeros (take n body) == z)) (Some (take n body, drop n body)) (batch, rest) found in
    let same = picked_is (nat_le n (length body) && (zeros (take n body) == z)) (Some (take n body, drop n body)) (batch, rest) found in
    let batch_is : take n body ≡ batch = ap before same in
    let rest_is : drop n body ≡ rest = ap behind same in
    let within : nat_le n (length body) ≡ true = both_left (nat_le n (length body)) (zeros (take n body) == z) inner in
    let counts : (zeros (take n body) == z) ≡ true = both_right (nat_le n (length body)) (zeros (take n body) == z) inner in
    let fits : n ≤ length body = grind (arith, nat_tests, within) in
    let zeros_are : zeros (take n body) ≡ z = grind (arith, nat_tests, counts) in
    let length_is : length batch ≡ n = sym (ap length batch_is) ∙ length-take-le n body fits in
    let five : length (take 5 t) ≡ 5 = length-take-le 5 t (omega (arith, long)) in
    let five_more : length (take 5 (drop 5 t)) ≡ 5 = length-take-le 5 (drop 5 t) (omega (arith, long, length-drop 5 t)) in
    let first : marked 5 (length batch) ≡ take 5 t = ap (marked 5) length_is ∙ marked-unmarked 5 (take 5 t) five (are_marked_left (take 5 t) (take 5 (drop 5 t)) marks) (bytes-take 5 t are) in
    let second : marked 5 (zeros batch) ≡ take 5 (drop 5 t) = ap (λ (l : List ℕ). marked 5 (zeros l)) (sym batch_is) ∙ ap (marked 5) zeros_are ∙ marked-unmarked 5 (take 5 (drop 5 t)) five_more (are_marked_right (take 5 t) (take 5 (drop 5 t)) marks) (bytes-take 5 (drop 5 t) (bytes-drop 5 t are)) in
    let body_is : body ≡ batch ++ rest = sym (take-append-drop n body) ∙ ap (λ (l : List ℕ). l ++ drop n body) batch_is ∙ ap (λ (l : List ℕ). batch ++ l) rest_is in
    record {
      whole =
          ap (λ (k : ℕ). k ∷ t) gate ∙ ap (λ (l : List ℕ). 215 ∷ l) (in_three t
          ∙ ap (λ (l : List ℕ). l ++ (take 5 (drop 5 t) ++ drop 10 t)) (sym first)
          ∙ ap (λ (l : List ℕ). marked 5 (length batch) ++ (l ++ drop 10 t)) (sym second)
          ∙ ap (λ (l : List ℕ). marked 5 (length batch) ++ (marked 5 (zeros batch) ++ l)) body_is);
      few = omega (arith, length_is, unmarked_small 5 (take 5 t) five);
    }

pub spelled : (file batch rest : List ℕ) → AreBytes file → first_frame file ≡ Some (batch, rest) → Spelled file batch rest
spelled [] batch rest are e = absurd (none_some (batch, rest) e)
spelled (g ∷ t) batch rest are e = spelled_cons g t batch rest are.1 e

pub bytes_by_index : (bytes : List ℕ) → ((k : ℕ) → slice_index bytes k < 256) → AreBytes bytes
bytes_by_index [] each = search
bytes_by_index (b ∷ bytes) each = (each 0, bytes_by_index bytes (λ k. each (suc k)))

-- one more frame
abbrev pub begun_more : (bytes rest batch behind : List ℕ) → Begun bytes rest → AreBytes rest → first_frame rest ≡ Some (batch, behind) → Begun bytes behind
begun_more bytes rest batch behind begun are e =
    let s = spelled rest batch behind are e in
    record {
      batches = begun.batches ++ batch ∷ [];
      whole = begun.whole ∙ ap (λ (l : List ℕ). frames begun.batches ++ l) s.whole ∙ sym (append_assoc (frames begun.batches) (frame batch) behind) ∙ ap (λ (l : List ℕ). l ++ behind) (sym (frames-push begun.batches batch));
      short = short-push begun.batches batch begun.short s.few;
    }

pub shorter : (rest batch behind : List ℕ) → AreBytes rest → first_frame rest ≡ Some (batch, behind) → length behind < length rest
shorter rest batch behind are e =
    let s = spelled rest batch behind are e in
    omega (arith, ap length s.whole, length-append (frame batch) behind)

pub scanned : (bytes rest : List ℕ) → Begun bytes rest → first_frame rest ≡ None → Scanned bytes (length bytes - length rest)
scanned bytes rest begun none = record {
  batches = begun.batches;
  tail = rest;
  whole = begun.whole;
  ends = omega (arith, ap length begun.whole, length-append (frames begun.batches) rest);
  none = none;
  short = begun.short;
}

pub zeros_step : (n : ℕ) (bytes : List ℕ) → bytes ≡ replicate n 0 ++ drop n bytes → n < length bytes → get_or bytes n 0 ≡ 0 → bytes ≡ replicate (n + 1) 0 ++ drop (n + 1) bytes
zeros_step n bytes is lt zero_is =
    is ∙ ap (λ (l : List ℕ). replicate n 0 ++ l) (drop_more bytes n 0 lt ∙ ap (λ (b : ℕ). b ∷ drop (n + 1) bytes) zero_is) ∙ sym (zeros_split n 1 (n + 1) (drop (n + 1) bytes) refl)

pub bytes_behind : (xs ys : List ℕ) → AreBytes (xs ++ ys) → AreBytes ys
bytes_behind [] ys are = are
bytes_behind (x ∷ xs) ys are = bytes_behind xs ys are.1

pub behind_shorter : (file batch rest : List ℕ) → first_frame file ≡ Some (batch, rest) → length rest < length file
behind_shorter file batch rest e =
    let n = unmarked (take 5 (drop 1 file)) in
    let z = unmarked (take 5 (drop 6 file)) in
    let body = drop 11 file in
    let t1 = nat_le 11 (length file) in
    let t2 = slice_index file 0 == 215 in
    let t3 = are_marked (take 10 (drop 1 file)) in
    let one : t1 ≡ true = both_left t1 t2 (both_left (t1 && t2) t3 (picked_test (t1 && t2 && t3) (counted n z body) (batch, rest) e)) in
    let long : 11 ≤ length file = grind (arith, nat_tests, one) in
    let found : counted n z body ≡ Some (batch, rest) = picked_is (t1 && t2 && t3) (counted n z body) (batch, rest) e in
    let same = picked_is (nat_le n (length body) && (zeros (take n body) == z)) (Some (take n body, drop n body)) (batch, rest) found in
    let rest_is : drop n body ≡ rest = ap behind same in
    omega (arith, long, ap length rest_is, length-drop n body, length-drop 11 file)

reads_next : (k : ℕ) (file : List ℕ) → ((rest : List ℕ) → length rest < length file → Reads (first_batches k rest) rest) → (o : Option (List ℕ × List ℕ)) → first_frame file ≡ o → Reads (going_on (λ rest. first_batches k rest) o) file
reads_next k file next None e = e
reads_next k file next (Some p) e = (p.1, e, next p.1 (behind_shorter file p.0 p.1 e))

-- each file reads as some batches
reads_first : (k : ℕ) (file : List ℕ) → length file ≤ k → Reads (first_batches k file) file
reads_first zero [] le = refl
reads_first zero (b ∷ file) le = absurd (omega (arith, le))
reads_first (suc k) file le = reads_next k file (λ rest lt. reads_first k rest (omega (arith, le, lt))) (first_frame file) refl

pub reads_own : (file : List ℕ) → Reads (batches_of file) file
reads_own file = reads_first (length file) file (omega arith)

pub record Ended (seen tail : List ℕ) (end : ℕ) : Type 0 where
  pub file : seen ≡ frames (batches_of seen) ++ tail
  pub ends : end ≡ length (frames (batches_of seen))
  pub none : first_frame tail ≡ None
  pub short : AreShort (batches_of seen)

pub ended : (seen bytes tail : List ℕ) (end : ℕ) → Scanned bytes end → seen ≡ bytes → tail ≡ drop end bytes → Ended seen tail end
ended seen bytes tail end sc same behind_is =
    let tail_is : tail ≡ sc.tail = behind_is ∙ ap (λ (l : List ℕ). drop end l) sc.whole ∙ drop_at (frames sc.batches) sc.tail end (sym sc.ends) in
    let are : batches_of seen ≡ sc.batches = batches_are sc.batches sc.tail seen (same ∙ sc.whole) sc.short sc.none in
    record {
      file = same ∙ sc.whole ∙ ap (λ (l : List ℕ). frames sc.batches ++ l) (sym tail_is) ∙ ap (λ (b : List (List ℕ)). frames b ++ tail) (sym are);
      ends = sc.ends ∙ ap (λ (b : List (List ℕ)). length (frames b)) (sym are);
      none = ap first_frame tail_is ∙ sc.none;
      short = subst AreShort (sym are) sc.short;
    }

-- a file with a frame at its front begins with an open gate
pub found_gate : (file batch rest : List ℕ) → first_frame file ≡ Some (batch, rest) → (11 ≤ length file) × (slice_index file 0 ≡ 215)
found_gate file batch rest e =
    let n = unmarked (take 5 (drop 1 file)) in
    let z = unmarked (take 5 (drop 6 file)) in
    let body = drop 11 file in
    let t1 = nat_le 11 (length file) in
    let t2 = slice_index file 0 == 215 in
    let t3 = are_marked (take 10 (drop 1 file)) in
    let tests : (t1 && t2 && t3) ≡ true = picked_test (t1 && t2 && t3) (counted n z body) (batch, rest) e in
    let two : (t1 && t2) ≡ true = both_left (t1 && t2) t3 tests in
    let one : t1 ≡ true = both_left t1 t2 two in
    let gate : t2 ≡ true = both_right t1 t2 two in
    (grind (arith, nat_tests, one), grind (arith, nat_tests, gate))
