-- The places of an order as a list: the slots of the entries, the last one again, and the mark behind all.
use Rattle.std.proofs.Common.{false, ◌≢◌, ◌≡◌, ◌⊎◌, ℕ, ◌+◌, ◌-◌, ◌*◌, ◌%◌, ◌^◌, ◌<◌, ◌≤◌, List, [], ◌∷◌, ◌++◌, length, take, drop, replicate, get_or, slice_get, Some, refl, sym, ◌∙◌, ap, arith, append-nil, length-append, length-drop}
use Rattle.std.proofs.lemmas.List.{get_or-take, drop_all, places, same_lists, take_at}
use Rattle.std.proofs.lemmas.List.Elements.{All-append, All-cons, All-drop, All-nil, All-replicate, All-take}
use Rattle.std.proofs.lemmas.Option.{get_or_from_slice_get}
use Rattle.tree_cells.specs.Order.{is_retired, edited, last_of, named, names, packed, row, AreSmall, taken_out, IsOrder, IsSmall}
use Rattle.tree_cells.proofs.Words.{get_or-names, length-names, names_packed, names_small, spliced, take-names}
use Rattle.std.proofs.lemmas.Bool.Decides.{nat_tests}
use Rattle.std.proofs.Math.Nat.{zero-div}
use lib.Bits.{bit_or}

pub small_edited : (n m : ℕ) (others slots : List ℕ) → AreSmall others → AreSmall slots → AreSmall (edited n m others slots)
small_edited n m others slots h small =
    All-append IsSmall (take n slots) (others ++ drop m slots) (All-take IsSmall n slots small) (All-append IsSmall others (drop m slots) h (All-drop IsSmall m slots small))

pub one_small : (slot : ℕ) → slot < 16 → AreSmall (slot ∷ [])
one_small slot small = All-cons IsSmall slot [] small (All-nil IsSmall)

-- ---- lists whose elements from n up to m are replaced
module _ {X : Type 0} (n m : ℕ) (others xs : List X) where
  pub length-edited : n ≤ m → m ≤ length xs → length (edited n m others xs) + m ≡ length xs + (n + length others)
  length-edited le within = grind (arith, places)

-- the last slot stays behind others
pub last-edited : (n m : ℕ) (others slots : List ℕ) → n ≤ m → m < length slots → last_of (edited n m others slots) ≡ last_of slots
last-edited n m others slots le within = grind (arith, places)

-- ---- rows
module _ (len : ℕ) (slots : List ℕ) where
  pub length-row : length slots ≤ len → length (row len slots) ≡ len + 1
  length-row few = grind (arith, places)

  pub row_small : AreSmall slots → 0 < length slots → AreSmall (row len slots)
  row_small small some =
      All-append IsSmall slots (replicate (len - length slots) (last_of slots) ++ 15 ∷ []) small
      (All-append IsSmall (replicate (len - length slots) (last_of slots)) (15 ∷ []) (All-replicate IsSmall (len - length slots) (last_of slots) (small (length slots - 1) 0 (omega arith))) (one_small 15 (omega arith)))

-- a word whose places are a row is an order
pub made : {len word : ℕ} (slots : List ℕ) (n : ℕ) → AreSmall slots → len ≤ 15 → n ≤ len → length slots ≡ n → 0 < n → word ≡ packed (row len slots) → (names word n ≡ slots) × IsOrder len word n
made {len} {word} slots n small few within whole some is =
    let le : n ≤ length (row len slots) = omega (arith, length-row len slots (omega arith)) in
    let same : names word n ≡ slots = ap (λ (w : ℕ). names w n) is ∙ names_packed (row len slots) n (row_small len slots small (omega arith)) le ∙ take_at slots (replicate (len - length slots) (last_of slots) ++ 15 ∷ []) n whole in
    (same, record { small = few; few = within; filled = λ _. is ∙ ap (λ (slots : List ℕ). packed (row len slots)) (sym same) })

-- ---- what the places of an order name
module _ {len word count : ℕ} (it : IsOrder len word count) (some : 0 < count) where
  pub row_is : word ≡ packed (row len (names word count))
  row_is = it.filled some

  pub small_row : AreSmall (row len (names word count))
  small_row = row_small len (names word count) (names_small word count) (omega (arith, length-names word count))

  pub whole_row : length (row len (names word count)) ≡ len + 1
  whole_row = length-row len (names word count) (omega (arith, length-names word count, it.few))

  pub names_row : (n : ℕ) → n ≤ len + 1 → names word n ≡ take n (row len (names word count))
  names_row n le = ap (λ (w : ℕ). names w n) row_is ∙ names_packed (row len (names word count)) n small_row (omega (arith, whole_row))

  -- the first places name the entries, and then the last one again
  pub first_places : (n : ℕ) → count ≤ n → n ≤ len → names word n ≡ names word count ++ replicate (n - count) (last_of (names word count))
  first_places n few within =
      names_row n (omega arith) ∙ same_lists _ _ (grind (arith, places, length-names word count)) (λ k d h. grind (arith, places, length-names word count))

  pub last_is : (slot : ℕ) → slice_get (names word count) (count - 1) ≡ Some slot → slot ≡ last_of (names word count)
  last_is slot there = sym (get_or_from_slice_get (names word count) (count - 1) slot 0 there) ∙ ap (λ (k : ℕ). get_or (names word count) (k - 1) 0) (sym (length-names word count))

  last_named : last_of (names word count) ≡ named word (count - 1)
  last_named = ap (λ (k : ℕ). get_or (names word count) (k - 1) 0) (length-names word count) ∙ get_or-names word count (count - 1) 0 (omega arith)

  named_row : (i : ℕ) → i ≤ len → named word i ≡ get_or (row len (names word count)) i 0
  named_row i le =
      let is = names_row (i + 1) (omega arith) in
      sym (get_or-names word (i + 1) i 0 (omega arith)) ∙ rw is (get_or-take (i + 1) (row len (names word count)) i 0 (omega arith))

  pub named_tail : (i : ℕ) → count ≤ i → i < len → named word i ≡ named word (count - 1)
  named_tail i le lt = named_row i (omega arith) ∙ grind (arith, places, length-names word count) ∙ last_named

  pub named_beyond : named word len ≡ 15
  named_beyond = named_row len (omega arith) ∙ grind (arith, places, length-names word count, it.few)

  -- the word that is made of the first p places, with others in place of those from n up to m, and extended from q on
  pub edited_order : (p q n m : ℕ) (others : List ℕ) {count' slot w a b result : ℕ} → count ≤ p → p ≤ len → n ≤ m → m < count → q ≤ len → q + m ≡ p + (n + length others) → count' + m ≡ count + (n + length others) → AreSmall others → (q ≡ len) ⊎ (slot ≡ last_of (names word count))
      → w ≡ packed (names word p) → a ≡ packed (names w n) → b ≡ packed (others ++ drop m (names word p))
      → ((slots : List ℕ) → AreSmall slots → length slots ≡ q → bit_or a (b * 2 ^ (4 * n) % 2 ^ 64) ≡ packed slots → result ≡ packed (slots ++ (replicate (len - q) slot ++ 15 ∷ []))) → (names result count' ≡ edited n m others (names word count)) × IsOrder len result count'
  edited_order p q n m others {count'} {slot} {w} {a} {b} few within le early enough same total smalls tail is low high extends =
      let slots = names word count in
      let small = names_small word p in
      let whole = length-names word p in
      let fewer = length-names word count in
      let length' = length-edited n m others slots le (omega (arith, fewer)) in
      let word' = spliced (names word p) (others ++ drop m (names word p)) n w a b small (All-append IsSmall others (drop m (names word p)) smalls (All-drop IsSmall m (names word p) small)) (omega (arith, whole)) (omega (arith, length-append others (drop m (names word p)), length-drop m (names word p), whole, it.small)) is low high in
      made (edited n m others slots) count' (small_edited n m others slots smalls (names_small word count)) it.small (omega arith) (omega (arith, length', fewer)) (omega arith)
      (extends (edited n m others (names word p)) (small_edited n m others (names word p) smalls small) (omega (arith, length-edited n m others (names word p) le (omega (arith, whole)), whole)) word'
      ∙ ap packed (rw (first_places p few within, last-edited n m others slots le (omega (arith, fewer))) (same_lists _ _ (grind (arith, places, fewer)) (λ k d h. grind (arith, places, fewer, tail)))))

-- an edit at the end of the slots
pub edited_end : (word count n m : ℕ) (others : List ℕ) → n ≤ count → count ≤ m → edited n m others (names word count) ≡ names word n ++ others
edited_end word count n m others le past =
    rw (take-names word n count le, drop_all m (names word count) (omega (arith, length-names word count)), append-nil) refl

module _ {len word count : ℕ} (it : IsOrder len word count) where
  -- the word whose last slot is named anew, or comes
  pub pushed : {n m slot count' result : ℕ} → n ≤ count → count ≤ m → n < len → slot < 16 → count' ≡ n + 1 → result ≡ packed (names word n ++ (replicate (len - n) slot ++ 15 ∷ [])) → (names result count' ≡ edited n m (slot ∷ []) (names word count)) × IsOrder len result count'
  pushed {n} {m} {slot} {count'} le past room small more is =
      let slots = names word n ++ slot ∷ [] in
      let whole = length-names word n in
      rw (edited_end word count n m (slot ∷ []) le past) (made slots count' (All-append IsSmall (names word n) (slot ∷ []) (names_small word n) (one_small slot small)) it.small (omega arith) (omega (arith, length-append (names word n) (slot ∷ []), whole)) (omega arith)
      (is ∙ ap packed (same_lists _ _ (grind (arith, places, whole)) (λ k d h. grind (arith, places, whole)))))

  -- the word without the last slot
  pub ended : {n result : ℕ} → 0 < n → count ≡ n + 1 → result ≡ packed (names word n ++ (replicate (len - n) (named word (n - 1)) ++ 15 ∷ [])) → (names result n ≡ taken_out n (names word count)) × IsOrder len result n
  ended {n} some fewer is =
      rw (edited_end word count n (n + 1) [] (omega arith) (omega arith), append-nil (names word n)) (made (names word n) n (names_small word n) it.small (omega (arith, it.few)) (length-names word n) some (is ∙ ap packed (rw (length-names word n, get_or-names word n (n - 1) 0 (omega arith)) refl)))

-- an order that names entries isn't that of a retired array
pub live : {len word count : ℕ} → IsOrder len word count → 0 < count → is_retired word ≡ false
live {len} {word} it some =
    let differs : word ≢ 0 = λ zero. omega (arith, ap (λ (w : ℕ). named w len) zero, zero-div (2 ^ (4 * len)), named_beyond it some) in
    grind (arith, nat_tests, differs)
