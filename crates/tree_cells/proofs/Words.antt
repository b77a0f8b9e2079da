-- Words of places, four bits each, the lowest one first.
use Rattle.std.proofs.Common.{◌≡◌, ℕ, zero, suc, ◌+◌, ◌-◌, ◌*◌, ◌/◌, ◌%◌, ◌^◌, ◌<◌, ◌≤◌, List, [], ◌∷◌, ◌++◌, length, take, drop, replicate, get_or, slice_get, Some, refl, sym, ◌∙◌, ap, arith, pow-add, shr-shr, length-append, take_all}
use Rattle.std.proofs.lemmas.List.{drop-replicate, length-replicate, length-take-le}
use Rattle.std.proofs.lemmas.List.Elements.{All-append, All-cons, All-head, All-replicate, All-tail, All-take}
use Rattle.std.proofs.lemmas.Nat.{mod-pow-add, or_comm, or_shifted}
use Rattle.std.proofs.lemmas.Option.{same_Some, slice_get-get_or, slice_get_within}
use Rattle.std.proofs.Math.Nat.{mod-eq_of_lt, pow-le-pow_right}
use lib.Bits.{bit_or}
use Rattle.tree_cells.specs.Order.{named, names, packed, AreSmall, IsSmall, picked}
use Rattle.tree_cells.specs.Length.{IsLen}
use Rattle.std.proofs.lemmas.List.FromFn.{get_or-map-range_with_len, length-map-range_with_len, map-range_with_len_more}

weight : (n : ℕ) → 2 ^ (4 * suc n) ≡ 16 * 2 ^ (4 * n)
weight n = let e : 4 * suc n ≡ 4 + 4 * n = omega arith in rw e (pow-add 2 4 (4 * n))

-- ---- what places name
pub names_small : (word n : ℕ) → AreSmall (names word n)
names_small word zero = λ k d lt. absurd (omega arith)
names_small word (suc n) = All-cons IsSmall (word % 16) (names (word / 16) n) (omega arith) (names_small (word / 16) n)

pub length-names : (word n : ℕ) → length (names word n) ≡ n
length-names word zero = refl
length-names word (suc n) = omega (arith, length-names (word / 16) n)

pub get_or-names : (word n i d : ℕ) → i < n → get_or (names word n) i d ≡ named word i
get_or-names word zero i d lt = absurd (omega arith)
get_or-names word (suc n) zero d lt = omega arith
get_or-names word (suc n) (suc i) d lt = let e : 4 * suc i ≡ 4 + 4 * i = omega arith in rw (e, ← shr-shr word 4 (4 * i)) (get_or-names (word / 16) n i d (omega arith))

pub slice_get-names : (word n i : ℕ) → i < n → slice_get (names word n) i ≡ Some (named word i)
slice_get-names word n i lt = slice_get-get_or (names word n) i 0 (omega (arith, length-names word n)) ∙ ap (λ (slot : ℕ). Some slot) (get_or-names word n i 0 lt)

pub ruleset naming = (slice_get-names)

-- a slot at a place is what the place names
pub named_at : (word n i slot : ℕ) → slice_get (names word n) i ≡ Some slot → (i < n) × (named word i ≡ slot)
named_at word n i slot there =
    let lt : i < n = omega (arith, slice_get_within (names word n) i slot there, length-names word n) in
    (lt, same_Some (named word i) slot (sym (slice_get-names word n i lt) ∙ there))

-- the rest of a word from a later place on
pub named_later : (word n i : ℕ) → named (word / 2 ^ (4 * n)) i ≡ named word (n + i)
named_later word n i =
    let e : 4 * (n + i) ≡ 4 * n + 4 * i = omega arith in
    rw (e, ← shr-shr word (4 * n) (4 * i)) refl

pub take-names : (word n m : ℕ) → n ≤ m → take n (names word m) ≡ names word n
take-names word zero m le = refl
take-names word (suc n) zero le = absurd (omega arith)
take-names word (suc n) (suc m) le = ap (λ (rest : List ℕ). word % 16 ∷ rest) (take-names (word / 16) n m (omega arith))

-- ---- words that are made of slots
packed_small : (slots : List ℕ) → AreSmall slots → packed slots < 2 ^ (4 * length slots)
packed_small [] small = omega arith
packed_small (slot ∷ slots) small =
    rw (weight (length slots)) (omega (arith, All-head IsSmall slot slots small, packed_small slots (All-tail IsSmall slot slots small)))

pub packed_below : (slots : List ℕ) (n : ℕ) → AreSmall slots → length slots ≤ n → packed slots < 2 ^ (4 * n)
packed_below slots n small few =
    let le : 2 ^ (4 * length slots) ≤ 2 ^ (4 * n) = pow-le-pow_right (omega arith) {i = 4 * length slots} {j = 4 * n} (omega arith) in
    omega (arith, packed_small slots small)

-- its first places name these
pub names_packed : (slots : List ℕ) (n : ℕ) → AreSmall slots → n ≤ length slots → names (packed slots) n ≡ take n slots
names_packed slots zero small le = refl
names_packed [] (suc n) small le = absurd (omega arith)
names_packed (slot ∷ slots) (suc n) small le =
    let few = All-head IsSmall slot slots small in
    let low : (slot + 16 * packed slots) % 16 ≡ slot = omega (arith, few) in
    let rest : (slot + 16 * packed slots) / 16 ≡ packed slots = omega (arith, few) in
    rw (low, rest, names_packed slots n (All-tail IsSmall slot slots small) (omega arith)) refl

-- two words whose first places make one word name the same there
pub same_names : (word other n : ℕ) → packed (names word n) ≡ packed (names other n) → names word n ≡ names other n
same_names word other n same = sym (own word) ∙ ap (λ (w : ℕ). names w n) same ∙ own other
  where
    own : (w : ℕ) → names (packed (names w n)) n ≡ names w n
    own w =
        let whole = length-names w n in
        names_packed (names w n) n (names_small w n) (omega (arith, whole)) ∙ take_all n (names w n) (omega (arith, whole))

pub packed_drop : (slots : List ℕ) (n : ℕ) → AreSmall slots → n ≤ length slots → packed slots / 2 ^ (4 * n) ≡ packed (drop n slots)
packed_drop slots zero small le = omega arith
packed_drop [] (suc n) small le = absurd (omega arith)
packed_drop (slot ∷ slots) (suc n) small le =
    let few = All-head IsSmall slot slots small in
    let e : 4 * suc n ≡ 4 + 4 * n = omega arith in
    let rest : (slot + 16 * packed slots) / 2 ^ 4 ≡ packed slots = omega (arith, few) in
    rw (e, ← shr-shr (slot + 16 * packed slots) 4 (4 * n), rest) (packed_drop slots n (All-tail IsSmall slot slots small) (omega arith))

packed-append : (low high : List ℕ) → packed (low ++ high) ≡ packed low + 2 ^ (4 * length low) * packed high
packed-append [] high = omega arith
packed-append (slot ∷ low) high = rw (weight (length low)) (omega (arith, packed-append low high))

-- without one place more
pub rest_behind : (slots : List ℕ) → AreSmall slots → (n : ℕ) → n + 1 ≤ length slots → packed slots / 2 ^ (4 * n) / 2 ^ 4 ≡ packed (drop (n + 1) slots)
rest_behind slots small n le =
    let e : 4 * n + 4 ≡ 4 * (n + 1) = omega arith in
    shr-shr (packed slots) (4 * n) 4 ∙ rw e (packed_drop slots (n + 1) small le)

-- one word behind another
pub joins : (low high : List ℕ) (n a b : ℕ) → AreSmall low → AreSmall high → length low ≡ n → length low + length high ≤ 16 → a ≡ packed low → b ≡ packed high → bit_or a (b * 2 ^ (4 * n) % 2 ^ 64) ≡ packed (low ++ high)
joins low high n a b smalls smalls' whole few is is' =
    let sum : b * 2 ^ (4 * n) + a ≡ packed (low ++ high) = rw (← whole, is, is') (omega (arith, packed-append low high)) in
    let fits = packed_below (low ++ high) 16 (All-append IsSmall low high smalls smalls') (omega (arith, length-append low high)) in
    let below : a < 2 ^ (4 * n) = rw (← whole, is) (packed_small low smalls) in
    let room : b * 2 ^ (4 * n) < 2 ^ 64 = omega (arith, sum, fits) in
    rw (mod-eq_of_lt room) (or_comm a (b * 2 ^ (4 * n)) ∙ or_shifted b (4 * n) a below ∙ sum)

-- the first places of any word
pub word_low : (word n : ℕ) → word % 2 ^ (4 * n) ≡ packed (names word n)
word_low word zero = omega arith
word_low word (suc n) =
    let e : 4 * suc n ≡ 4 * n + 4 = omega arith in
    rw (e, mod-pow-add word (4 * n) 4) (omega (arith, word_low (word / 16) n))

-- the places of a word before one, and others behind them
pub spliced : (places others : List ℕ) (n w a b : ℕ) → AreSmall places → AreSmall others → n ≤ length places → n + length others ≤ 16 → w ≡ packed places → a ≡ packed (names w n) → b ≡ packed others → bit_or a (b * 2 ^ (4 * n) % 2 ^ 64) ≡ packed (take n places ++ others)
spliced places others n w a b small smalls within few is low high =
    let whole = length-take-le n places within in
    joins (take n places) others n a b (All-take IsSmall n places small) smalls whole (omega (arith, whole)) (low ∙ ap packed (ap (λ (w : ℕ). names w n) is ∙ names_packed places n small within)) high

-- ---- a slot at many places
ones : (n : ℕ) → n ≤ 15 → 76861433640456465 / 2 ^ (60 - 4 * n) ≡ packed (replicate n 1)
ones n few =
    let e : 60 - 4 * n ≡ 4 * (15 - n) = omega arith in
    let f : 15 - (15 - n) ≡ n = omega arith in
    rw e (packed_drop (replicate 15 1) (15 - n) (All-replicate IsSmall 15 1 (omega arith)) (omega (arith, length-replicate {A = ℕ} 15 1)) ∙ ap packed (drop-replicate (15 - n) 15 1 ∙ ap (λ (k : ℕ). replicate k 1) f))

times : (slot n : ℕ) → slot * packed (replicate n 1) ≡ packed (replicate n slot)
times slot zero = omega arith
times slot (suc n) = omega (arith, times slot n)

pub repeated : (slot n : ℕ) → n ≤ 15 → slot * (76861433640456465 / 2 ^ (60 - 4 * n)) ≡ packed (replicate n slot)
repeated slot n few = rw (ones n few) (times slot n)

-- an array has no more than fifteen slots
pub len_small : (len : ℕ) → IsLen len → len ≤ 15
len_small len is = grind arith

-- ---- lists that are given place by place
module _ {X : Type 0} (pick : ℕ → X) (n : ℕ) where
  pub picked-next : picked pick (n + 1) ≡ picked pick n ++ pick n ∷ []
  picked-next = map-range_with_len_more pick 0 n n (omega arith)

  pub length-picked : length (picked pick n) ≡ n
  length-picked = length-map-range_with_len pick 0 n

  pub get_or-picked : (p : ℕ) (d : X) → p < n → get_or (picked pick n) p d ≡ pick p
  get_or-picked p d lt = get_or-map-range_with_len pick 0 n p p d lt (omega arith)
