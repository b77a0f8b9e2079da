-- Entries that stand in the first slots, one after another.
use Rattle.std.proofs.Common.{◌≡◌, ◌≢◌, ℕ, zero, suc, ◌+◌, ◌-◌, ◌<◌, ◌≤◌, List, [], ◌∷◌, ◌++◌, map, replicate, ap, refl, sym, ◌∙◌, get_or, arith}
use Rattle.std.specs.List.{range_with_len}
use Rattle.std.proofs.lemmas.Bool.{cases_eq}
use Rattle.std.proofs.lemmas.Bool.Decides.{nat_tests}
use Rattle.std.proofs.lemmas.List.{places, same_lists}
use Rattle.std.proofs.lemmas.List.FromFn.{get_or-range_with_len, length-range_with_len}
use Rattle.tree_cells.specs.Order.{named, names, ordinal_in, packed, rises_from, rises_in, AreSmall, IsOrder}
use Rattle.tree_cells.proofs.Rows.{made}
use Rattle.tree_cells.proofs.Words.{get_or-names, length-names}

-- the first places name their own numbers
pub turn : (i : ℕ) → i < 15 → named 1070935975390360080 i ≡ i
turn i lt =
    let is : get_or (range_with_len 0 15) i 0 ≡ named 1070935975390360080 i = get_or-names 1070935975390360080 15 i 0 lt in
    omega (arith, is, get_or-range_with_len 0 15 i 0 lt)

-- so do the first of them, as a list
pub turns : (n : ℕ) → n ≤ 15 → names 1070935975390360080 n ≡ range_with_len 0 n
turns n few = same_lists _ _ (length-names 1070935975390360080 n ∙ sym (length-range_with_len 0 n)) (λ i d lt. grind (arith, get_or-names, turn, get_or-range_with_len, lt, length-names 1070935975390360080 n))

pub turns_small : (n : ℕ) → n ≤ 15 → AreSmall (range_with_len 0 n)
turns_small n few = λ k d lt. grind (arith, get_or-range_with_len, lt, length-range_with_len 0 n)

-- and their word is an order
pub turn_order : {len n word : ℕ} → len ≤ 15 → n ≤ len → 0 < n → word ≡ packed (names 1070935975390360080 n ++ (replicate (len - n) (n - 1) ++ 15 ∷ [])) → (names word n ≡ range_with_len 0 n) × IsOrder len word n
turn_order {len} {n} small few some is = made (range_with_len 0 n) n (turns_small n (omega arith)) small few (length-range_with_len 0 n) some (is ∙ ap packed (rw (turns n (omega arith)) (same_lists _ _ (grind (arith, places, length-range_with_len)) (λ k d h. grind (arith, places, length-range_with_len, get_or-range_with_len)))))

pub ordinal_here : (name : ℕ → ℕ) (n p : ℕ) → name n ≡ p → ordinal_in name (suc n) p ≡ n + 1
ordinal_here name n p is = grind (arith, nat_tests)

pub ordinal_before : (name : ℕ → ℕ) (n p : ℕ) → name n ≢ p → ordinal_in name (suc n) p ≡ ordinal_in name n p
ordinal_before name n p differs = grind (arith, nat_tests)

-- then each slot's ordinal is one more than its number
ordinal_turn : (name : ℕ → ℕ) (n : ℕ) → ((i : ℕ) → i < n → name i ≡ i) → (p : ℕ) → p < n → ordinal_in name n p ≡ p + 1
ordinal_turn name zero turns p lt = absurd (omega arith)
ordinal_turn name (suc n) turns p lt = grind (arith, nat_tests, ordinal_turn name n (λ i less. turns i (omega arith)) p, turns n (omega arith), cases_eq p n)

-- ---- how often the ordinals rise
pub rises_up : (previous n : ℕ) (ns : List ℕ) → 0 < n → previous < n → rises_from previous (n ∷ ns) ≡ 1 + rises_from n ns
rises_up previous n ns some up = grind (arith, nat_tests)

pub rises_down : (previous n : ℕ) (ns : List ℕ) → 0 < n → n ≤ previous → rises_from previous (n ∷ ns) ≡ rises_from n ns
rises_down previous n ns some down = grind (arith, nat_tests)

rises_on : (ordinal : ℕ → ℕ) (a n : ℕ) → ((p : ℕ) → a ≤ p → p < a + n → ordinal p ≡ p + 1) → rises_from a (map ordinal (range_with_len a n)) ≡ n
rises_on ordinal a zero turns = refl
rises_on ordinal a (suc n) turns =
    rw (turns a (omega arith) (omega arith), rises_up a (a + 1) (map ordinal (range_with_len (a + 1) n)) (omega arith) (omega arith))
    (omega (arith, rises_on ordinal (a + 1) n (λ p le lt. turns p (omega arith) (omega arith))))

-- each but the first rises over the one before
pub all_rise : (name : ℕ → ℕ) (n : ℕ) → 0 < n → ((i : ℕ) → i < n → name i ≡ i) → rises_in (ordinal_in name n) n ≡ n - 1
all_rise name zero some turns = absurd (omega arith)
all_rise name (suc n) some turns =
    let ordinal = ordinal_turn name (suc n) turns in
    rw (ordinal 0 (omega arith), rises_down 15 1 (map (ordinal_in name (suc n)) (range_with_len 1 n)) (omega arith) (omega arith))
    (omega (arith, rises_on (ordinal_in name (suc n)) 1 n (λ p le lt. ordinal p (omega arith))))
