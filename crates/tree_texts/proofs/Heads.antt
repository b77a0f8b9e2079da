-- What the heads of two lists say of their order.
use Rattle.std.proofs.Common.{◌≡◌, ℕ, zero, suc, ◌+◌, ◌*◌, ◌<◌, ◌≤◌, ◌-◌, ◌≢◌, length-drop, List, [], ◌∷◌, get_or, length, drop, ◌⊎◌, inl, inr, refl, sym, arith, Less, Greater, nat_cmp, ◌^◌}
use Rattle.std.proofs.lemmas.Bool.{cases_lt}
use Rattle.std.proofs.lemmas.Bool.Decides.{nat_tests}
use Rattle.std.proofs.Math.Nat.{pow-suc, pow-le-pow_right}
use Rattle.std.specs.Int.{w64, from_be_bytes}
use Rattle.std.specs.Cmp.Lexicographic.{slice_cmp, nat_list_cmp_total}
use Rattle.tree_model.proofs.Order.{greater_from_less}
use Rattle.tree_texts.specs.Head.{leading, head_of, AreBytes, HasHead}

-- equal numbers are of equal bytes
pub leading_same : (k : ℕ) (xs ys : List ℕ) → AreBytes xs → AreBytes ys → leading k xs ≡ leading k ys → (i : ℕ) → i < k → get_or xs i 0 ≡ get_or ys i 0
unfolding leading
leading_same zero xs ys bx by same i less = absurd (omega arith)
leading_same (suc k) xs ys bx by same i less =
    let x : get_or xs k 0 < 256 = bx k in
    let y : get_or ys k 0 < 256 = by k in
    let front : leading k xs ≡ leading k ys = omega arith in
    let here : get_or xs k 0 ≡ get_or ys k 0 = omega arith in
    elim (cases_lt i k) [ inl lt ↦ leading_same k xs ys bx by front i lt | inr ge ↦ let at : k ≡ i = omega arith in rw (← at) here ]

-- the first difference of two lists decides
pub less_at : (k : ℕ) (xs ys : List ℕ) → ((i : ℕ) → i < k → get_or xs i 0 ≡ get_or ys i 0) → get_or xs k 0 < get_or ys k 0 → slice_cmp nat_cmp xs ys ≡ Less
less_at k xs [] same less = absurd (omega arith)
less_at k [] (y ∷ ys) same less = refl
less_at zero (x ∷ xs) (y ∷ ys) same less = grind (arith, nat_tests)
less_at (suc k) (x ∷ xs) (y ∷ ys) same less =
    let first : x ≡ y = same 0 (omega arith) in
    let rest : slice_cmp nat_cmp xs ys ≡ Less = less_at k xs ys (λ i lt. same (suc i) (omega arith)) less in
    grind (arith, nat_tests)

-- a smaller number is of smaller bytes
pub leading_less : (k : ℕ) (xs ys : List ℕ) → AreBytes xs → AreBytes ys → leading k xs < leading k ys → slice_cmp nat_cmp xs ys ≡ Less
unfolding leading
leading_less zero xs ys bx by less = absurd (omega arith)
leading_less (suc k) xs ys bx by less =
    let x : get_or xs k 0 < 256 = bx k in
    let y : get_or ys k 0 < 256 = by k in
    elim (cases_lt (leading k xs) (leading k ys)) [
      | inl lt ↦ leading_less k xs ys bx by lt
      | inr ge ↦
          let front : leading k xs ≡ leading k ys = omega arith in
          let here : get_or xs k 0 < get_or ys k 0 = omega arith in
          less_at k xs ys (leading_same k xs ys bx by front) here
    ]

-- so a smaller head is of smaller bytes
pub head_less : {head other : ℕ} {xs ys : List ℕ} → HasHead head xs → HasHead other ys → head < other → slice_cmp nat_cmp xs ys ≡ Less
head_less {xs = xs} {ys = ys} x y less = leading_less 8 xs ys x.all y.all (omega (arith, x.is, y.is))

pub head_greater : {head other : ℕ} {xs ys : List ℕ} → HasHead head xs → HasHead other ys → other < head → slice_cmp nat_cmp xs ys ≡ Greater
head_greater {xs = xs} {ys = ys} x y less = greater_from_less nat_list_cmp_total ys xs (head_less y x less)

-- k bytes are a number below 256 to the k-th
pub leading_below : (k : ℕ) (xs : List ℕ) → AreBytes xs → leading k xs < 256 ^ k
unfolding leading
leading_below zero xs bytes = omega arith
leading_below (suc k) xs bytes =
    let last : get_or xs k 0 < 256 = bytes k in
    let front : leading k xs < 256 ^ k = leading_below k xs bytes in
    let more : 256 ^ suc k ≡ 256 ^ k * 256 = pow-suc 256 k in
    omega arith

-- fewer than eight are below 256 to the seventh
pub leading_fits : (k : ℕ) (xs : List ℕ) → AreBytes xs → k < 8 → leading k xs < 72057594037927936
leading_fits k xs bytes less =
    let below : leading k xs < 256 ^ k = leading_below k xs bytes in
    let most : 256 ^ k ≤ 256 ^ 7 = pow-le-pow_right {n = 256} (omega arith) {i = k} {j = 7} (omega arith) in
    omega arith

-- lists that are equal at their first k places, of which one ends there or before, are in the order of their lengths
tied_short : (k : ℕ) (xs ys : List ℕ) → ((i : ℕ) → i < k → get_or xs i 0 ≡ get_or ys i 0) → (length xs ≤ k) ⊎ (length ys ≤ k) → slice_cmp nat_cmp xs ys ≡ nat_cmp (length xs) (length ys)
tied_short k [] [] same short = refl
tied_short k [] (y ∷ ys) same short = grind (arith, nat_tests)
tied_short k (x ∷ xs) [] same short = grind (arith, nat_tests)
tied_short zero (x ∷ xs) (y ∷ ys) same short = absurd (elim short [ inl le ↦ omega arith | inr le ↦ omega arith ])
tied_short (suc k) (x ∷ xs) (y ∷ ys) same short =
    let first : x ≡ y = same 0 (omega arith) in
    let less : (length xs ≤ k) ⊎ (length ys ≤ k) = elim short [ inl le ↦ inl (omega arith) | inr le ↦ inr (omega arith) ] in
    let rest : slice_cmp nat_cmp xs ys ≡ nat_cmp (length xs) (length ys) = tied_short k xs ys (λ i lt. same (suc i) (omega arith)) less in
    grind (arith, nat_tests)

-- and else in the order of what follows
tied_long : (k : ℕ) (xs ys : List ℕ) → ((i : ℕ) → i < k → get_or xs i 0 ≡ get_or ys i 0) → k ≤ length xs → k ≤ length ys → slice_cmp nat_cmp xs ys ≡ slice_cmp nat_cmp (drop k xs) (drop k ys)
tied_long zero xs ys same x y = refl
tied_long (suc k) [] ys same x y = absurd (omega arith)
tied_long (suc k) (x ∷ xs) [] same p q = absurd (omega arith)
tied_long (suc k) (x ∷ xs) (y ∷ ys) same p q =
    let first : x ≡ y = same 0 (omega arith) in
    let rest : slice_cmp nat_cmp xs ys ≡ slice_cmp nat_cmp (drop k xs) (drop k ys) = tied_long k xs ys (λ i lt. same (suc i) (omega arith)) (omega arith) (omega arith) in
    grind (arith, nat_tests)

-- lists with the same head, past the first of their bytes
pub heads_past : (k : ℕ) (xs ys : List ℕ) → AreBytes xs → AreBytes ys → head_of xs ≡ head_of ys → k ≤ 8 → k ≤ length xs → k ≤ length ys → slice_cmp nat_cmp (drop k xs) (drop k ys) ≡ slice_cmp nat_cmp xs ys
heads_past k xs ys x y same few p q = sym (tied_long k xs ys (λ i lt. leading_same 8 xs ys x y same i (omega arith)) p q)

pub heads_short : (xs ys : List ℕ) → AreBytes xs → AreBytes ys → head_of xs ≡ head_of ys → (length xs ≤ 8) ⊎ (length ys ≤ 8) → slice_cmp nat_cmp xs ys ≡ nat_cmp (length xs) (length ys)
heads_short xs ys x y same short = tied_short 8 xs ys (leading_same 8 xs ys x y same) short

-- different heads are in the order of the lists
pub heads_apart : {head other : ℕ} {xs ys : List ℕ} → HasHead head xs → HasHead other ys → head ≢ other → slice_cmp nat_cmp xs ys ≡ nat_cmp head other
heads_apart {head = head} {other = other} x y apart =
    elim (cases_lt head other) [
      | inl lt ↦ rw (head_less x y lt) (grind (arith, nat_tests))
      | inr ge ↦ let gt : other < head = omega arith in rw (head_greater x y gt) (grind (arith, nat_tests))
    ]

-- the last eight bytes that both have decide, and else the lengths
pub last_tied : (k : ℕ) (xs ys : List ℕ) → AreBytes (drop k xs) → AreBytes (drop k ys) → head_of (drop k xs) ≡ head_of (drop k ys) → k ≤ length xs → k ≤ length ys → (length xs ≤ k + 8) ⊎ (length ys ≤ k + 8) → slice_cmp nat_cmp (drop k xs) (drop k ys) ≡ nat_cmp (length xs) (length ys)
last_tied k xs ys x y same p q short =
    let a : length (drop k xs) ≡ length xs - k = length-drop k xs in
    let b : length (drop k ys) ≡ length ys - k = length-drop k ys in
    let by : slice_cmp nat_cmp (drop k xs) (drop k ys) ≡ nat_cmp (length (drop k xs)) (length (drop k ys)) = heads_short (drop k xs) (drop k ys) x y same (elim short [ inl le ↦ inl (omega arith) | inr le ↦ inr (omega arith) ]) in
    rw by (grind (arith, nat_tests))

-- eight bytes and more are a head as they lie
pub head_whole : (xs : List ℕ) → from_be_bytes w64 (get_or xs 0 0 ∷ get_or xs 1 0 ∷ get_or xs 2 0 ∷ get_or xs 3 0 ∷ get_or xs 4 0 ∷ get_or xs 5 0 ∷ get_or xs 6 0 ∷ get_or xs 7 0 ∷ []) ≡ head_of xs
unfolding leading
head_whole xs = omega arith
