-- What every array keeps.
use Rattle.std.proofs.Common.{◌≡◌, ◌↔◌, IsTrue, ℕ, suc, ◌+◌, ◌==◌, ◌<◌, Bool, false, List, [], ◌∷◌, map, length, slice_get, Option, None, Some, IsSome, refl, sym, ◌∙◌, ap, subst, inl, inr, arith, Ordering, Equal}
use Rattle.tree_array.proofs.Common.{IsAbsent, IsTotalOrder, cases_lt, false≢true, nat_tests, nil_from_length, pair_at, Arrivals, arrival, ascents, reachable, sorted, stored, HasRoom, named}
use Rattle.tree_array.proofs.Common.{names, IsSound, seen, equal_from_test, length-picked, arrival-all, len_small, ordinals_of, picked, IsArray, false_from_ne_true, map-map, length-put}
use Rattle.tree_array.proofs.Common.{without_absent, without_few, find_none, numbered, slots_in_order, IsStored, held, HasKey, IsPlace, Before, all-reachable, same_slots, sorted_held}
use Rattle.tree_array.proofs.Common.{reachable_few, some_of, counted_all, before_none, key_found, pair_at-sorted, values-sorted, with_values, early, length-held, listed_at}
use Rattle.tree_array.proofs.Common.{one_arrival, stands, is_retired, ordinal_in, rises_in, live, length-names, slice_get-names}

-- ---- the slots of the entries
module _ {K V : Type 0} (cmp : K → K → Ordering) where
  -- the keys of the reachable arrivals, with what their numbers name
  numbered_seen : (g : ℕ → Option (K × V)) (n : ℕ) (arrivals : List (Option (K × V))) → ((q : ℕ) → g (n + q) ≡ arrival arrivals q) → with_values cmp (λ (slot : K × ℕ). g slot.1) (numbered n arrivals) ≡ with_values cmp (λ (e : K × V). Some e) (reachable arrivals)
  numbered_seen g n [] same = refl
  numbered_seen g n (a ∷ arrivals) same = grind (arith, same 0, numbered_seen g (suc n) arrivals (λ q. ap g (omega arith) ∙ same (suc q)))

  -- the slots in order are those of the entries
  pub slots-sorted : (g : ℕ → Option (K × V)) (arrivals : List (Option (K × V))) → ((q : ℕ) → g q ≡ arrival arrivals q) → map g (map (λ (slot : K × ℕ). slot.1) (sorted cmp (numbered 0 arrivals))) ≡ map Some (sorted cmp (reachable arrivals))
  slots-sorted g arrivals same =
      let keyed = sym (values-sorted cmp _ (numbered 0 arrivals)) ∙ ap (sorted cmp) (numbered_seen g 0 arrivals (λ q. ap g (omega arith) ∙ same q)) ∙ values-sorted cmp _ (reachable arrivals) in
      map-map g (λ (slot : K × ℕ). slot.1) (sorted cmp (numbered 0 arrivals)) ∙ sym (map-map (λ (e : K × Option (K × V)). e.1) (λ (slot : K × ℕ). (slot.0, g slot.1)) (sorted cmp (numbered 0 arrivals)))
      ∙ ap (map (λ (e : K × Option (K × V)). e.1)) keyed ∙ map-map (λ (e : K × Option (K × V)). e.1) (λ (e : K × V). (e.0, Some e)) (sorted cmp (reachable arrivals))

module _ {K V : Type 0} {cmp : K → K → Ordering} (o : IsTotalOrder cmp) where
  -- no two arrivals have equal keys
  abbrev pub IsDistinct : List (Option (K × V)) → Type 0
  IsDistinct arrivals = (p q : ℕ) (e f : K × V) → arrival arrivals p ≡ Some e → arrival arrivals q ≡ Some f → cmp e.0 f.0 ≡ Equal → p ≡ q

  -- there are as many entries as reachable arrivals
  pub length-sorted : (arrivals : List (Option (K × V))) → IsDistinct arrivals → length (sorted cmp (reachable arrivals)) ≡ length (reachable arrivals)
  length-sorted [] distinct = refl
  length-sorted (None ∷ arrivals) distinct = length-sorted arrivals (λ p q e f some some' same. omega (arith, distinct (suc p) (suc q) e f some some' same))
  length-sorted (Some e ∷ arrivals) distinct =
      omega (arith, length-put cmp (sorted cmp (reachable arrivals)) e.0 e.1, without_absent cmp (sorted cmp (reachable arrivals)) e.0 (pair_at-sorted o e.0 (reachable arrivals) ∙ find_none _ (reachable arrivals) (all-reachable _ arrivals (λ q f some. false_from_ne_true _ (λ h. omega (arith, distinct (suc q) 0 f e some refl (equal_from_test _ h)))))), length-sorted arrivals (λ p q e f some some' same. omega (arith, distinct (suc p) (suc q) e f some some' same)))

-- ---- an array as contracts see it, by the fields that its code has read
pub record AreFields {K V : Type 0} (cmp : K → K → Ordering) (len : ℕ) (cells : List (Option (K × V))) (word count made : ℕ) (array : Arrivals K V) : Type 0 where
  pub it : IsArray cmp len cells word count made
  pub view : seen cells word count made ≡ array

pub fields : {K V : Type 0} {cmp : K → K → Ordering} {len : ℕ} {cells : List (Option (K × V))} {word count made w n m : ℕ} {array : Arrivals K V} → w ≡ word → n ≡ count → m ≡ made → IsArray cmp len cells word count made → seen cells word count made ≡ array → AreFields cmp len cells w n m array
fields is_word is_count is_made it view = record { it = rw (is_word, is_count, is_made) it; view = rw (is_word, is_count, is_made) view }

module _ {K V : Type 0} {cmp : K → K → Ordering} {len : ℕ} {cells : List (Option (K × V))} {word count made : ℕ} {array : Arrivals K V} (a : AreFields cmp len cells word count made array) where
  pub arrivals_seen : array.arrivals ≡ picked (arrival cells) made
  arrivals_seen = sym (ap (λ (b : Arrivals K V). b.arrivals) a.view)

  pub retired_seen : array.retired ≡ is_retired word
  retired_seen = sym (ap (λ (b : Arrivals K V). b.retired) a.view)

  pub entries_seen : array.entries ≡ held cells (names word count)
  entries_seen = sym (ap (λ (b : Arrivals K V). b.entries) a.view)

  pub made_seen : length array.arrivals ≡ made
  made_seen = ap length arrivals_seen ∙ length-picked (arrival cells) made

  pub count_seen : length array.entries ≡ count
  count_seen = ap length entries_seen ∙ length-held a.it.table.in_order ∙ length-names word count

  pub arrival_seen : (p : ℕ) → arrival array.arrivals p ≡ arrival cells p
  arrival_seen p = ap (λ (arrivals : List (Option (K × V))). arrival arrivals p) arrivals_seen ∙ arrival-all (arrival cells) made a.it.table.unmade p

  pub reachable_seen : (p : ℕ) → IsSome (arrival array.arrivals p) → IsSome (arrival cells p)
  reachable_seen p some = subst IsSome (arrival_seen p) some

  -- a reachable arrival stands at a place, as an entry does
  pub listed_seen : (p : ℕ) → IsSome (arrival array.arrivals p) → (i : ℕ) × (slice_get (names word count) i ≡ Some p)
  listed_seen p some = let e = some_of (arrival cells p) (reachable_seen p some) in let l = listed_at a.it.table p e.0 e.1 in (l.0, l.1)

  pub place_seen : (i p : ℕ) → slice_get (names word count) i ≡ Some p → (e : K × V) × (arrival array.arrivals p ≡ Some e) × (slice_get array.entries i ≡ Some e)
  place_seen i p there =
      let s = stands a.it.table.in_order i p there in
      (s.0, arrival_seen p ∙ s.1, ap (λ (entries : List (K × V)). slice_get entries i) entries_seen ∙ s.2)

  -- an array is empty where no place names an entry
  pub empty_iff : IsTrue (count == 0) ↔ (array.entries ≡ [])
  empty_iff = (λ is_zero. nil_from_length array.entries (grind (arith, nat_tests, count_seen)), λ none. grind (arith, nat_tests, count_seen, ap length none))

  module _ (o : IsTotalOrder cmp) where
    distinct_seen : IsDistinct o array.arrivals
    distinct_seen p q e f here there = one_arrival a.it.table o p q e f (sym (arrival_seen p) ∙ here) (sym (arrival_seen q) ∙ there)

    -- the slots in the order of their keys are those that the places name
    pub slots_seen : slots_in_order cmp array ≡ names word count
    slots_seen =
        same_slots o a.it.table (slots_in_order cmp array)
        (slots-sorted cmp (arrival cells) array.arrivals (λ p. sym (arrival_seen p)) ∙ ap (λ (arrivals : List (Option (K × V))). map Some (sorted cmp (reachable arrivals))) arrivals_seen ∙ ap (map Some) (sorted_held o a.it.table))

    pub kept : IsSound cmp len array
    kept = record {
      is_len = a.it.table.is_len;
      few = omega (arith, made_seen, a.it.table.few_made);
      distinct = distinct_seen;
      sorted_arrivals = sorted_seen;
      ascending = rw entries_seen a.it.table.in_order.ascend;
      slots = slots-sorted cmp (arrival array.arrivals) array.arrivals (λ p. refl) ∙ ap (map Some) (sym sorted_seen);
      count = ap length sorted_seen ∙ length-sorted o array.arrivals distinct_seen;
      entries_few = omega (arith, ap length sorted_seen, length-sorted o array.arrivals distinct_seen, reachable_few array.arrivals);
      none_retired = λ retired. nil_from_length array.entries (count_seen ∙ elim (cases_lt 0 count) [ inl some ↦ absurd (false≢true (sym (live a.it.order some) ∙ sym retired_seen ∙ retired)) | inr none ↦ omega arith ]);
    }
      where
        sorted_seen : array.entries ≡ sorted cmp (reachable array.arrivals)
        sorted_seen = entries_seen ∙ sym (ap (λ (arrivals : List (Option (K × V))). sorted cmp (reachable arrivals)) arrivals_seen ∙ sorted_held o a.it.table)

    -- what a search says of a key
    pub found_seen : {key : K} {i : ℕ} → (has : HasKey cmp (held cells (names word count)) key i) → pair_at cmp array.entries key ≡ Some has.pair
    found_seen {key} has = ap (λ (entries : List (K × V)). pair_at cmp entries key) entries_seen ∙ key_found o (held cells (names word count)) a.it.table.in_order.ascend has

    pub none_seen : (key : K) (place slot : ℕ) → IsPlace cmp (held cells (names word count)) key (names word count) (Before place slot) → pair_at cmp array.entries key ≡ None
    none_seen key place slot h = ap (λ (entries : List (K × V)). pair_at cmp entries key) entries_seen ∙ before_none o (held cells (names word count)) key (names word count) place slot h

    -- the rises of ordinals are the ascents of keys
    pub rises_seen : rises_in (ordinal_in (named word) count) made ≡ ascents cmp (reachable array.arrivals)
    rises_seen =
        counted_all (ordinals_of o word count a.it.table) (omega (arith, a.it.table.few_made, len_small len a.it.table.is_len))
        ∙ ap (λ (arrivals : List (Option (K × V))). ascents cmp (reachable arrivals)) (sym arrivals_seen)

  -- each place names one of the fifteen slots
  pub named_few : (i : ℕ) → i < count → named word i < 15
  named_few i lt = omega (arith, early a.it.table i (named word i) (slice_get-names word count i lt), a.it.table.few_made, len_small len a.it.table.is_len)

-- what was stored fits
pub is_stored : {K V : Type 0} {cmp : K → K → Ordering} {len : ℕ} {upsert : Bool} {old new : Arrivals K V} {key : K} {val : V} → IsSound cmp len old → HasRoom len old → (upsert ≡ false → IsAbsent cmp old.entries key) → new ≡ stored cmp old key val → IsStored cmp len upsert old key val new
is_stored {cmp = cmp} {old = old} {key = key} {val = val} sound room absent is = record {
  new_is = is;
  room = room;
  absent = absent;
  few = rw is (omega (arith, length-put cmp old.entries key val, without_few cmp old.entries key, room.0, sound.entries_few));
}
