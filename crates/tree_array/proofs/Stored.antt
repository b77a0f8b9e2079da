-- The fields of an array after a pair was stored or a value replaced, and what contracts see of them.
use Rattle.std.proofs.Common.{◌≡◌, ℕ, ◌+◌, ◌<◌, false, IsTrue, List, [], ◌∷◌, ◌++◌, length, set, slice_get, Option, None, Some, refl, sym, ◌∙◌, ap, arith, min, take_all, Ordering, Less, length-set, get_or-set_other, get_or-set_same}
use Rattle.tree_array.proofs.Common.{AllByRecursion, IsTotalOrder, cases_lt, drop_all, false≢true, tied_back, Arrivals, arrival, free, greater_from_less, names, picked, spend}
use Rattle.tree_array.proofs.Common.{stored, HasRoom, IsFull, all_map, false_from_ne_true, slice_get_within, held, HasKey, IsPlace, Parts, Before, picked_same, others, added, its_pair}
use Rattle.tree_array.proofs.Common.{moved, set_at, within, inserted, renamed, IsOrder, live, picked-next, named_at, fill_by_all, length-picked, seen, IsArray, with_val, IsSetAt}
use Rattle.tree_array.proofs.Common.{arrival-picked, made_early, replaced}
use Rattle.tree_array.proofs.Kept.{retired_seen, AreFields}
use Rattle.tree_array.proofs.Seen.{same_arrays, spend_absent, spend_seen}

module _ {K V : Type 0} {cmp : K → K → Ordering} (entries : List (K × V)) (key : K) where
  -- a key larger than all comes behind all
  pub parts_behind : IsTotalOrder cmp → (place : ℕ) → place ≡ length entries → AllByRecursion (λ p. cmp p.0 key ≡ Less) entries → Parts cmp entries key place
  parts_behind o place behind larger = grind (arith, take_all, drop_all, all_map, greater_from_less o)

  -- where a search says that a key comes
  pub parts_before : (slots : List ℕ) (count place slot : ℕ) → length entries ≡ count → length slots ≡ count → IsPlace cmp entries key slots (Before place slot) → Parts cmp entries key (min place count)
  parts_before slots count place slot whole few h = grind (arith, slice_get_within slots place slot)

-- an array that isn't full has room
pub room_from_not_full : {K V : Type 0} (len : ℕ) (array : Arrivals K V) → (IsFull len array → IsTrue false) → HasRoom len array
room_from_not_full len array not_full = grind (arith, cases_lt, free, false≢true, false_from_ne_true, array.retired)

module _ {K V : Type 0} {cmp : K → K → Ordering} (o : IsTotalOrder cmp) {len : ℕ} {cells : List (Option (K × V))} {word count made : ℕ} {array : Arrivals K V} (a : AreFields cmp len cells word count made array) (room : made < len) (key : K) (val : V) where
  -- the arrivals that there were, and the new one
  stored_arrivals : (cells' : List (Option (K × V))) → length cells' ≡ len → picked (arrival cells') made ≡ spend cmp (picked (arrival cells) made) key → picked (arrival (set cells' made (Some (key, val)))) (made + 1) ≡ spend cmp (picked (arrival cells) made) key ++ Some (key, val) ∷ []
  stored_arrivals cells' whole front = grind (arith, set_at, picked_same, picked-next)

  -- a pair whose key is new
  pub added_fields : array.retired ≡ false → {place : ℕ} → Parts cmp (held cells (names word count)) key place → {word' count' : ℕ} → count' ≡ count + 1 → names word' (count + 1) ≡ inserted place made (names word count) → IsOrder len word' count'
      → AreFields cmp len (set cells made (Some (key, val))) word' count' (made + 1) (stored cmp array key val)
  added_fields alive parts {word'} {count'} more placed order =
      let come = added o a.it.table room key val parts in
      record {
        it = record { table = rw (more, placed) come.0; order = order };
        view = rw (← a.view) (same_arrays _ _ _ _ _ _ (stored_arrivals cells a.it.table.whole (spend_absent o a.it.table key (others o parts)))
            (live order (omega (arith, more)) ∙ sym alive ∙ retired_seen a) (ap (held (set cells made (Some (key, val)))) (ap (names word') more ∙ placed) ∙ come.1));
      }

  -- a pair whose key an older arrival has
  pub moved_fields : array.retired ≡ false → {i p : ℕ} → slice_get (names word count) i ≡ Some p → HasKey cmp (held cells (names word count)) key i → {word' count' : ℕ} → count' ≡ count → names word' count ≡ renamed i made (names word count) → IsOrder len word' count'
      → AreFields cmp len (set (set cells p None) made (Some (key, val))) word' count' (made + 1) (stored cmp array key val)
  moved_fields alive {i} {p} is has {word'} {count'} same placed order =
      let old = its_pair o a.it.table is has in
      let gone = spend_seen o a.it.table key (arrival (set cells p None)) p has.pair old (tied_back o key has.pair.0 has.same) (set_at cells p None (within cells p has.pair old)) in
      let come = moved o a.it.table room is key val has in
      record {
        it = record { table = rw (same, placed) come.0; order = order };
        view = rw (← a.view) (same_arrays _ _ _ _ _ _ (stored_arrivals (set cells p None) (length-set cells p None ∙ a.it.table.whole) gone)
            (live order (omega (arith, same, (named_at word count i p is).0)) ∙ sym alive ∙ retired_seen a) (ap (held (set (set cells p None) made (Some (key, val)))) (ap (names word') same ∙ placed) ∙ come.1));
      }

-- ---- a value that is replaced
-- a list whose element at one place is set
pub picked_set : {K V : Type 0} (pick pick' : ℕ → Option (K × V)) (made slot : ℕ) (pair : K × V) → slot < made → IsSetAt pick pick' slot (Some pair) → picked pick' made ≡ set (picked pick made) slot (Some pair)
picked_set pick pick' made slot pair early change =
    grind (arith, fill_by_all pick' (set (picked pick made) slot (Some pair)) made None, length-set, length-picked, get_or-set_same, get_or-set_other, arrival-picked pick made, change.here, change.others)

module _ {K V : Type 0} {cmp : K → K → Ordering} (o : IsTotalOrder cmp) {len : ℕ} {cells : List (Option (K × V))} {word count made : ℕ} {array : Arrivals K V} (it : IsArray cmp len cells word count made) (view : seen cells word count made ≡ array) where
  pub valued : (slot : ℕ) (key : K) (old new : V) → arrival cells slot ≡ Some (key, old) → AreFields cmp len (set cells slot (Some (key, new))) word count made (with_val cmp array slot key new)
  valued slot key old new there =
      let new_is = replaced o it.table slot key old new there in
      let change = set_at cells slot (Some (key, new)) (within cells slot (key, old) there) in
      record {
        it = record { table = new_is.0; order = it.order };
        view = rw (← view) (same_arrays _ _ _ _ _ _ (picked_set (arrival cells) (arrival (set cells slot (Some (key, new)))) made slot (key, new) (made_early (arrival cells) made it.table.unmade slot (key, old) there) change) refl new_is.1);
      }
