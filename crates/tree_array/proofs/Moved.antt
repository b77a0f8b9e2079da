-- Pairs that are moved place by place into the cells of a new array, and the emptying of the cells that they leave.
use Rattle.std.proofs.Common.{◌≡◌, ℕ, zero, suc, ◌+◌, ◌<◌, ◌≤◌, false, List, [], ◌∷◌, length, map, take, drop, get_or, Option, None, Some, refl, sym, ◌∙◌, ap, inl, inr, arith, Ordering, get_or-drop, get_or-take, length-drop, length-take, set, IsSome, subst}
use Rattle.tree_array.proofs.Common.{IsAscending, cases_lt, range_with_len, Arrivals, arrival, in_order, names, picked, length-picked, arrival-all, IsTabled, get_or-map}
use Rattle.tree_array.proofs.Common.{length-map, same_lists, get_or-map-range_with_len, get_or-range_with_len, length-map-range_with_len, length-range_with_len, get_or_from_slice_get}
use Rattle.tree_array.proofs.Common.{none-some, all_at, drained, held, HasInTurn, is_retired, IsOrder, all_before, held_is, in_order_as, length-held, none_tabled, place_stands, length-names}
use Rattle.tree_array.proofs.Common.{IsTotalOrder, named, HasLeft, left_more, left_on, cases_option, listed_at, places_apart, named_at}
use Rattle.tree_array.proofs.Dealt.{spent_list}
use Rattle.tree_array.proofs.Kept.{count_seen, made_seen, AreFields}
use Rattle.tree_array.proofs.Seen.{same_arrays}

module _ {K V : Type 0} {cmp : K → K → Ordering} (o : IsTotalOrder cmp) {len : ℕ} {old new : List (Option (K × V))} {word made count place : ℕ} (it : IsTabled cmp len old (names word count) made) (left : HasLeft old new word 0 place) where
  kept_there : (i : ℕ) → place ≤ i → i < count → arrival new (named word i) ≡ arrival old (named word i)
  kept_there i le lt = left.others (named word i) (λ j from less. places_apart word count it.in_order o j i (omega arith) lt (λ e. omega arith))

  pub left_stands : (i : ℕ) → place ≤ i → i < count → IsSome (arrival new (named word i))
  left_stands i le lt = let s = place_stands word count it.in_order i lt in subst IsSome (sym (kept_there i le lt ∙ s.1)) refl

  pub emptied_more : place < count → HasLeft old (set new (named word place) None) word 0 (place + 1)
  emptied_more lt = left_more left (omega arith) (λ i from less. places_apart word count it.in_order o i place (omega arith) lt (λ e. omega arith))

  -- the pairs of some more places leave
  module _ {next : List (Option (K × V))} {end : ℕ} (few : end ≤ count) where
    pub emptied_run : place ≤ end → HasLeft new next word place end → HasLeft old next word 0 end
    emptied_run ends more = left_on left more (omega arith) (λ i j early le less. places_apart word count it.in_order o i j (omega arith) (omega arith) (λ e. omega arith)) ends

    pub in_turn_run : HasInTurn new next word place end → HasInTurn old next word place end
    in_turn_run turn = record { here = λ i lt. turn.here i lt ∙ kept_there (place + i) (omega arith) (omega arith); none = turn.none }

  pub emptied_all : place ≡ count → (p : ℕ) → arrival new p ≡ None
  emptied_all all p =
      grind (arith, cases_option (arrival old p), left.others p, left.gone, listed_at it p, named_at word count, place_stands word count it.in_order)

module _ {K V : Type 0} (cmp : K → K → Ordering) where
  ascending-drop : (n : ℕ) (entries : List (K × V)) → IsAscending cmp entries → IsAscending cmp (drop n entries)
  ascending-drop zero entries h = h
  ascending-drop (suc n) [] h = tt
  ascending-drop (suc n) (e ∷ entries) h = ascending-drop n entries h.1

  ascending-take : (n : ℕ) (entries : List (K × V)) → IsAscending cmp entries → IsAscending cmp (take n entries)
  ascending-take zero entries h = tt
  ascending-take (suc n) [] h = tt
  ascending-take (suc n) (e ∷ entries) h = (all_before _ entries n (λ i f lt there. all_at _ entries i f h.0 there), ascending-take n entries h.1)

-- an array without arrivals has no pair in its cells
pub none_new : {K V : Type 0} {cmp : K → K → Ordering} {len : ℕ} {cells : List (Option (K × V))} {word count made : ℕ} {array : Arrivals K V} → AreFields cmp len cells word count made array → array ≡ in_order [] → (made ≡ 0) × (count ≡ 0) × ((p : ℕ) → arrival cells p ≡ None)
none_new {made = made} a is =
    let none : made ≡ 0 = omega (arith, ap (λ (a : Arrivals _ _). length a.arrivals) is, made_seen a) in
    (none, omega (arith, ap (λ (a : Arrivals _ _). length a.entries) is, count_seen a), λ p. a.it.table.unmade p (omega (arith, none)))

module _ {K V : Type 0} {cmp : K → K → Ordering} {len : ℕ} {old : List (Option (K × V))} {made : ℕ} (word count : ℕ) (it : IsTabled cmp len old (names word count) made) (from n end : ℕ) (sum : from + n ≡ end) (few : end ≤ count) {new : List (Option (K × V))} (h : HasInTurn old new word from end) where
  -- the entries that were moved
  abbrev part : List (K × V)
  part = take n (drop from (held old (names word count)))

  length-part : length part ≡ n
  length-part = omega (arith, length-take n (drop from (held old (names word count))), length-drop from (held old (names word count)), length-held it.in_order, length-names word count)

  part_stand : map (arrival new) (range_with_len 0 n) ≡ map Some part
  part_stand = same_lists _ _ (omega (arith, length-map-range_with_len (arrival new) 0 n, length-map part (λ (e : K × V). Some e), length-part)) (λ k d lt.
      let small : k < n = omega (arith, lt, length-map-range_with_len (arrival new) 0 n) in
      let s = place_stands word count it.in_order (from + k) (omega arith) in
      let there : get_or part k s.0 ≡ s.0 = get_or-take n (drop from (held old (names word count))) k s.0 small ∙ get_or-drop from (held old (names word count)) k s.0 ∙ get_or_from_slice_get (held old (names word count)) (from + k) s.0 s.0 s.2 in
      get_or-map-range_with_len (arrival new) 0 n k k d small (omega arith) ∙ h.here k (omega arith) ∙ s.1
      ∙ sym (get_or-map (λ (e : K × V). Some e) part k s.0 d (omega (arith, length-part)) ∙ ap (λ (e : K × V). Some e) there))

  -- make a new array
  pub moved_fields : length new ≡ len → {word' : ℕ} → names word' n ≡ range_with_len 0 n → IsOrder len word' n → is_retired word' ≡ false → AreFields cmp len new word' n n (in_order part)
  moved_fields whole turn order' alive = record {
    it = record {
      table = rw turn record {
        is_len = it.is_len;
        whole = whole;
        few_made = omega (arith, it.few_made, it.few, length-names word count);
        few = omega (arith, length-range_with_len 0 n);
        unmade = λ p le. h.none p (omega arith);
        in_order = in_order_as new (range_with_len 0 n) _ part_stand (ascending-take cmp n (drop from (held old (names word count))) (ascending-drop cmp from (held old (names word count)) it.in_order.ascend));
        listed = λ p e some. elim (cases_lt p n) [
          | inl lt ↦ let same : 0 + p ≡ p = omega arith in (p, omega (arith, length-range_with_len 0 n), get_or-range_with_len 0 n p p lt ∙ same)
          | inr ge ↦ absurd (none-some e (sym (h.none p (omega arith)) ∙ some))
        ];
      };
      order = order';
    };
    view = same_arrays _ _ _ _ _ _ part_stand alive (ap (held new) turn ∙ held_is new (range_with_len 0 n) _ part_stand);
  }

-- the array that all pairs left
pub emptied_fields : {K V : Type 0} {cmp : K → K → Ordering} {len : ℕ} {old : List (Option (K × V))} {word made count : ℕ} {array : Arrivals K V} → AreFields cmp len old word count made array → (new : List (Option (K × V))) → ((p : ℕ) → arrival new p ≡ None) → length new ≡ len → AreFields cmp len new 0 0 made (drained array)
emptied_fields {cmp = cmp} {len = len} {made = made} {array = array} a new none whole =
    let same : length (picked (arrival new) made) ≡ length array.arrivals = omega (arith, length-picked (arrival new) made, made_seen a) in
    record {
      it = record {
        table = none_tabled cmp len made new a.it.table.is_len whole a.it.table.few_made none;
        order = record { small = a.it.order.small; few = omega arith; filled = λ some. absurd (omega arith) };
      };
      view = same_arrays _ _ _ _ _ _ (spent_list (picked (arrival new) made) array.arrivals same (λ p. arrival-all (arrival new) made (λ q le. none q) p ∙ none p)) refl refl;
    }
