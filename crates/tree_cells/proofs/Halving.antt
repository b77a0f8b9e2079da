-- One step of the search by halving.
use Rattle.std.proofs.Common.{◌≡◌, ◌≢◌, ℕ, ◌+◌, ◌-◌, ◌*◌, ◌/◌, ◌^◌, ◌<◌, ◌≤◌, true, false, List, length, Option, Some, IsSome, slice_get, refl, sym, ◌∙◌, ap, subst, inr, arith, min, Ordering, Less, Equal, Greater, is_eq, is_gt, shr-shr}
use Rattle.tree_cells.proofs.Common.{IsTotalOrder, cases_eq, cases_lt, nat_tests, arrival, held, against, searched, IsPlace, IsWindow, Parts, AreSlots, At}
use Rattle.tree_cells.proofs.Common.{Before, IsLen, named, names, greater_from_less, greater_trans, named_beyond, named_tail, length-names, named_at, named_later, slice_get-names}
use mir.Val.{bool_byte}
use Rattle.tree_cells.proofs.Sides.{all_before, all_behind, ascending_at}
use Rattle.tree_cells.proofs.Tabled.{length-held, place_stands, slot_there}

pub searched_more : (len : ℕ) → 7 < len → searched len ≡ 4
searched_more len lt = grind (arith, nat_tests)

pub searched_few : (len : ℕ) → IsLen len → searched len ≤ len
searched_few len is = grind (arith, nat_tests)

pub searched_some : (len : ℕ) → 3 ≤ searched len
searched_some len = grind (arith, nat_tests)

module _ {K V : Type 0} {cmp : K → K → Ordering} (o : IsTotalOrder cmp) {cells : List (Option (K × V))} {len word count : ℕ} (slots : AreSlots cmp len cells word count) where
  -- each place names the slot of an entry, the last one behind all
  named_near : (i : ℕ) → i < len → named word i ≡ named word (min i (count - 1))
  named_near i lt = grind (arith, named_tail slots.order slots.some i, cases_lt i count)

  stands_near : (i : ℕ) → i < len → (e : K × V) × (arrival cells (named word i) ≡ Some e) × (slice_get (held cells (names word count)) (min i (count - 1)) ≡ Some e)
  stands_near i lt =
      let s = place_stands word count slots.in_order (min i (count - 1)) (omega (arith, slots.some)) in
      (s.0, ap (arrival cells) (named_near i lt) ∙ s.1, s.2)

  pub stands_all : (i : ℕ) → i < len → IsSome (arrival cells (named word i))
  stands_all i lt = subst IsSome (sym (stands_near i lt).1) refl

  module _ (key : K) where
    abbrev answer_at : ℕ → Ordering
    answer_at i = against cmp key (arrival cells (named word i))

    -- the answers fall
    falls : (i j : ℕ) → i ≤ j → j < len → (answer_at j ≡ Greater → answer_at i ≡ Greater) × (answer_at i ≡ Less → answer_at j ≡ Less)
    falls i j le lt =
        let s = stands_near i (omega arith) in
        let t = stands_near j lt in
        let less = ascending_at cmp (held cells (names word count)) slots.in_order.ascend (min i (count - 1)) (min j (count - 1)) s.0 t.0 in
        grind (arith, s.1, s.2, t.1, t.2, less, cases_eq (min i (count - 1)) (min j (count - 1)), greater_trans o key t.0.0 s.0.0, greater_from_less o s.0.0 t.0.0, o.trans key s.0.0 t.0.0)

    -- what holds of the answers at places holds of their entries
    entry_answer : (i : ℕ) (e : K × V) → slice_get (held cells (names word count)) i ≡ Some e → (i < count) × (cmp key e.0 ≡ answer_at i)
    entry_answer i e there =
        let slot = slot_there slots.in_order i e there in
        let at_slot = named_at word count i slot.0 slot.1 in
        (at_slot.0, sym (ap (against cmp key) (ap (arrival cells) at_slot.1 ∙ slot.2)))

    parts_at : (place : ℕ) → place ≤ count → ((i : ℕ) → i < place → answer_at i ≡ Greater) → ((i : ℕ) → place ≤ i → i < count → answer_at i ≡ Less) → Parts cmp (held cells (names word count)) key place
    parts_at place le smaller larger = record {
      within = omega (arith, length-held slots.in_order, length-names word count);
      smaller = all_before _ (held cells (names word count)) place (λ i e lt there. (entry_answer i e there).1 ∙ smaller i lt);
      larger = all_behind _ (held cells (names word count)) place (λ i e ge there. let h = entry_answer i e there in h.1 ∙ larger i ge h.0);
    }

    -- all entries are smaller
    behind_all : (place slot : ℕ) → count ≤ place → slot ≡ 15 → ((i : ℕ) → i < count → answer_at i ≡ Greater) → IsPlace cmp (held cells (names word count)) key (names word count) (Before place slot)
    behind_all place slot past is smaller =
        let whole : length (held cells (names word count)) ≡ count = omega (arith, length-held slots.in_order, length-names word count) in
        inr (omega arith, is, rw whole (parts_at count (omega arith) smaller (λ i le lt. absurd (omega arith))))

    -- a key larger than the last stands behind all
    pub beyond_last : {slot : ℕ} {e : K × V} → slice_get (names word count) (count - 1) ≡ Some slot → arrival cells slot ≡ Some e → cmp key e.0 ≡ Greater → IsPlace cmp (held cells (names word count)) key (names word count) (Before count 15)
    beyond_last {slot} at_last there greater =
        let at_slot = named_at word count (count - 1) slot at_last in
        let last : answer_at (count - 1) ≡ Greater = ap (against cmp key) (ap (arrival cells) at_slot.1 ∙ there) ∙ greater in
        behind_all count 15 (omega arith) refl (λ i lt. (falls i (count - 1) (omega arith) (omega (arith, slots.order.few))).0 last)

    module _ {place rest met : ℕ} (half : ℕ) (w : IsWindow cmp cells word key len place rest met (2 * half + 1)) where
      middle_within : place + half < len
      middle_within = omega (arith, w.reach)

      -- the slot in the middle of the window
      middle_is : named rest half ≡ named word (place + half)
      middle_is = rw w.left (named_later word place half)

      pub middle_stands : {slot : ℕ} → slot ≡ named rest half → IsSome (arrival cells slot)
      middle_stands is = subst (λ (p : ℕ). IsSome (arrival cells p)) (sym (is ∙ middle_is)) (stands_all (place + half) middle_within)

      module _ {slot : ℕ} (is : slot ≡ named rest half) {e : K × V} (there : arrival cells slot ≡ Some e) where
        here : (c : Ordering) → cmp key e.0 ≡ c → answer_at (place + half) ≡ c
        here c h = ap (against cmp key) (ap (arrival cells) (sym (is ∙ middle_is)) ∙ there) ∙ h

        pub window_greater : cmp key e.0 ≡ Greater → IsWindow cmp cells word key len (place + half + 1) (rest / 2 ^ (4 * half + 4)) met half
        window_greater greater = record {
          reach = omega (arith, w.reach);
          few = omega (arith, w.few);
          left =
              let f : 4 * place + (4 * half + 4) ≡ 4 * (place + half + 1) = omega arith in
              rw w.left (shr-shr word (4 * place) (4 * half + 4) ∙ ap (λ (n : ℕ). word / 2 ^ n) f);
          smaller = λ i lt. (falls i (place + half) (omega arith) middle_within).0 (here Greater greater);
          larger = λ none i le lt. w.larger none i (omega arith) lt;
          equal = λ more.
              let g : place + half + 1 + half ≡ place + (2 * half + 1) = omega arith in
              rw g (w.equal more);
        }

        pub window_less : cmp key e.0 ≡ Less → IsWindow cmp cells word key len place rest met half
        window_less less = record {
          reach = omega (arith, w.reach);
          few = omega (arith, w.few);
          left = w.left;
          smaller = w.smaller;
          larger = λ none i le lt. (falls (place + half) i le lt).1 (here Less less);
          equal = λ more.
              let q = w.equal more in
              absurd (cc ((falls (place + half) (place + (2 * half + 1)) (omega arith) q.0).1 (here Less less), q.1));
        }

        pub window_equal : cmp key e.0 ≡ Equal → IsWindow cmp cells word key len place rest (met + 1) half
        window_equal equal = record {
          reach = omega (arith, w.reach);
          few = omega (arith, w.few);
          left = w.left;
          smaller = w.smaller;
          larger = λ none. absurd (omega arith);
          equal = λ more. (middle_within, here Equal equal);
        }

        -- one step, by what the comparison with the middle answers
        pub halved_up : (answer : Ordering) → answer ≡ cmp key e.0 → is_gt answer ≡ true → IsWindow cmp cells word key len (place + half + 1) (rest / 2 ^ (4 * half + 4)) (met + bool_byte (is_eq answer)) half
        halved_up answer is up = grind (arith, window_greater)

        pub halved_down : (answer : Ordering) → answer ≡ cmp key e.0 → is_gt answer ≡ false → IsWindow cmp cells word key len place rest (met + bool_byte (is_eq answer)) half
        halved_down answer is down = grind (arith, window_less, window_equal)

    -- an equal key at the end of a window
    module _ {place rest met width : ℕ} (w : IsWindow cmp cells word key len place rest met width) where
      pub end_placed : 0 < met → IsPlace cmp (held cells (names word count)) key (names word count) (At (min (place + width) (count - 1)) (named rest width))
      end_placed more =
          let q = w.equal more in
          let s = stands_near (place + width) q.0 in
          let slot : named word (min (place + width) (count - 1)) ≡ named rest width = sym (named_near (place + width) q.0) ∙ sym (named_later word place width) ∙ ap (λ (rest : ℕ). named rest width) (sym w.left) in (
            record { pair = s.0; there = s.2; same = sym (ap (against cmp key) s.1) ∙ q.1 },
            slice_get-names word count _ (omega (arith, slots.some)) ∙ ap (λ (p : ℕ). Some p) slot,
          )

    -- nothing is left of a window
    module _ {place rest met : ℕ} (w : IsWindow cmp cells word key len place rest met 0) where
      still : place + 0 ≡ place
      still = omega arith

      -- the place is that of an entry, or behind all slots: else slots.in_order names the entry before it, which is smaller
      early_place : place < len → answer_at place ≢ Greater → place < count
      early_place within differs = grind (arith, cases_lt, against, named_tail, slots.order, slots.some, w.smaller)

      pub place_equal : 0 < met → IsPlace cmp (held cells (names word count)) key (names word count) (At place (named rest 0))
      place_equal more =
          let q = rw still at (w.equal more) in
          let lt = early_place q.0 (λ greater. let h : Equal ≡ Greater = sym q.1 ∙ greater in cc) in
          let same : min (place + 0) (count - 1) ≡ place = omega arith in
          rw same at (end_placed w more)

      pub place_apart : met ≡ 0 → IsPlace cmp (held cells (names word count)) key (names word count) (Before place (named rest 0))
      place_apart none =
          grind (arith, w.left, named_later, still, cases_lt, early_place, w.larger, parts_at, w.smaller, slots.order.few, slice_get-names, w.reach, behind_all, named_beyond, slots.order, slots.some)
