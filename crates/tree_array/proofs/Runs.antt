-- A run: a pair that is pushed, and the array that a run becomes.
use Rattle.std.proofs.Common.{◌≡◌, ◌≢◌, ℕ, zero, suc, ◌+◌, ◌<◌, ◌≤◌, true, List, [], ◌∷◌, ◌++◌, map, length, set, replicate, Option, Some, None, refl, sym, ◌∙◌, inl, inr, arith, Ordering, Less, length-append}
use Rattle.tree_array.proofs.Common.{range_with_len, length-map, length-replicate, length-range_with_len, AllByRecursion, IsTotalOrder, cases_lt}
use Rattle.tree_array.proofs.Common.{map-append, absent_beyond, put_beyond, arrival, in_order, spend, stored, IsLen, IsStore, IsRun, gathered, none_replicated, added}
use Rattle.tree_array.proofs.Common.{places, get_or-range_with_len, same_lists, length-held, none_tabled, inserted}
use Rattle.tree_array.specs.declared.answers.StoreResult.TheVariants.{New}
use Rattle.tree_array.proofs.Seen.{same_arrays}
use Rattle.tree_array.proofs.Stored.{parts_behind}

module _ {K V : Type 0} (cmp : K → K → Ordering) where
  spent_none : (l : List (K × V)) (key : K) → AllByRecursion (λ p. cmp p.0 key ≡ Less) l → spend cmp (map Some l) key ≡ map Some l
  spent_none [] key smaller = refl
  spent_none (pair ∷ l) key smaller = rw (smaller.0, spent_none l key smaller.1) refl

  -- a pair with a larger key arrives in turn
  stored_in_order : (l : List (K × V)) (key : K) (val : V) → AllByRecursion (λ p. cmp p.0 key ≡ Less) l → stored cmp (in_order l) key val ≡ in_order (l ++ (key, val) ∷ [])
  stored_in_order l key val smaller = grind (arith, same_arrays, spent_none, map-append, put_beyond)

  -- and is stored
  pub in_order_stores : (len : ℕ) (l : List (K × V)) (key : K) (val : V) → AllByRecursion (λ p. cmp p.0 key ≡ Less) l → length l < len → IsStore cmp len true (in_order l) key val New (in_order (l ++ (key, val) ∷ []))
  in_order_stores len l key val smaller room = grind (arith, stored_in_order, length-map, absent_beyond, length-append)

  -- cells without a pair
  pub first_run : (len : ℕ) → IsLen len → IsRun {K = K} {V = V} cmp len (replicate len None) 0 0
  first_run len is_len = record { table = none_tabled cmp len 0 _ is_len (length-replicate len _) (omega arith) (none_replicated len); all = refl }

-- the next slot comes behind those in turn
next_in_turn : (n : ℕ) → inserted n n (range_with_len 0 n) ≡ range_with_len 0 (n + 1)
next_in_turn n = same_lists _ _ (grind (arith, places, length-range_with_len)) (λ k d h. grind (arith, places, length-range_with_len, get_or-range_with_len))

module _ {K V : Type 0} {cmp : K → K → Ordering} {len count made : ℕ} {cells : List (Option (K × V))} (it : IsRun cmp len cells count made) where
  -- a run has as many pairs as it counts, and no more than slots
  pub length_run : (length (gathered cells count) ≡ count) × (count ≤ len)
  length_run = let whole = length-range_with_len 0 count in (length-held it.table.in_order ∙ whole, omega (arith, whole, it.table.few, it.table.few_made))

  -- its first pair stands in the first cell
  pub first_there : 0 < count → (pair : K × V) × (rest : List (K × V)) × (gathered cells count ≡ pair ∷ rest) × (arrival cells 0 ≡ Some pair)
  first_there some = begins count (gathered cells count) some it.table.in_order.stand
    where
      begins : (n : ℕ) (pairs : List (K × V)) → 0 < n → map (arrival cells) (range_with_len 0 n) ≡ map Some pairs → (pair : K × V) × (rest : List (K × V)) × (pairs ≡ pair ∷ rest) × (arrival cells 0 ≡ Some pair)
      begins zero pairs some stand = absurd (omega (arith, some))
      begins (suc n) [] some stand = absurd (cc)
      begins (suc n) (pair ∷ rest) some stand = (pair, rest, refl, cc)

  -- a pair is pushed, whose key is larger than all
  module _ (room : length (gathered cells count) ≢ len) where
    pub early : count < len
    early = elim (cases_lt count len) [ inl less ↦ less | inr more ↦ absurd (room (omega (arith, length_run.0, length_run.1))) ]

    pub pushed : IsTotalOrder cmp → (key : K) (val : V) → AllByRecursion (λ p. cmp p.0 key ≡ Less) (gathered cells count)
        → IsRun cmp len (set cells count (Some (key, val))) (count + 1) (count + 1) × (gathered (set cells count (Some (key, val))) (count + 1) ≡ gathered cells count ++ (key, val) ∷ [])
    pushed o key val smaller =
        let more = rw (it.all, next_in_turn count) at (added o it.table (omega (arith, it.all, early)) key val (parts_behind (gathered cells count) key o count (sym length_run.0) smaller)) in
        (record { table = more.0; all = refl }, more.1 ∙ put_beyond cmp (gathered cells count) key val smaller)
