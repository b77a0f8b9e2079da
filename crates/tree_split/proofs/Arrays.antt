-- Arrays whose arrivals have, in turn, the keys of their entries.
use Rattle.std.proofs.Common.{◌≡◌, ℕ, suc, ◌-◌, ◌<◌, ◌≤◌, true, false, List, [], ◌∷◌, ◌++◌, map, length, Option, Some, refl, ap, arith, Ordering, Less, is_eq}
use Rattle.tree_split.proofs.Words.{and_parts, both_true, tied_back, tied_itself, equal_from_test, put_beyond, alike_after, ascents, reachable, spend, stored, boundary_of, AllByRecursion, Arrivals, IsAscending, IsLen, IsTotalOrder, boundary, free, in_order, nat_tests, in_turn, is_packed_array}

module _ {K X : Type 0} (cmp : K → K → Ordering) where
  -- as many arrivals as entries
  in_turn_length : (arrivals : List (Option (K × X))) (entries : List (K × X)) → in_turn cmp arrivals entries ≡ true → length arrivals ≡ length entries
  in_turn_length [] [] same = refl
  in_turn_length (Some pair ∷ arrivals) (entry ∷ entries) same = grind (arith, nat_tests, and_parts, in_turn_length arrivals entries (and_parts (is_eq (cmp pair.0 entry.0)) _ same).1)
  in_turn_length arrivals entries same = absurd (cc)

  pub packed_marks : (array : Arrivals K X) → is_packed_array cmp array ≡ true → (array.retired ≡ false) × (in_turn cmp array.arrivals array.entries ≡ true)
  packed_marks array packed = grind (arith, nat_tests)

  -- a full one has an entry in every slot
  pub packed_full : (len : ℕ) (array : Arrivals K X) → is_packed_array cmp array ≡ true → free len array ≡ 0 → length array.entries ≤ len → length array.entries ≡ len
  packed_full len array packed none few = omega (arith, none, few, in_turn_length array.arrivals array.entries (packed_marks array packed).1)

module _ {K X : Type 0} {cmp : K → K → Ordering} (o : IsTotalOrder cmp) where
  own_keys : (entries : List (K × X)) → in_turn cmp (map Some entries) entries ≡ true
  own_keys [] = refl
  own_keys (entry ∷ entries) = both_true (ap is_eq (tied_itself o entry.0)) (own_keys entries)

  -- an array that was built in order is packed
  pub packed_in_order : (array : Arrivals K X) (entries : List (K × X)) → array ≡ in_order entries → is_packed_array cmp array ≡ true
  packed_in_order array entries is = rw is (own_keys entries)

  stored_in_turn : (arrivals : List (Option (K × X))) (entries : List (K × X)) (key : K) (x : X) → in_turn cmp arrivals entries ≡ true → AllByRecursion (λ p. cmp p.0 key ≡ Less) entries
      → in_turn cmp (spend cmp arrivals key ++ Some (key, x) ∷ []) (entries ++ (key, x) ∷ []) ≡ true
  stored_in_turn [] [] key x same smaller = own_keys ((key, x) ∷ [])
  stored_in_turn (Some pair ∷ arrivals) (entry ∷ entries) key x same smaller = grind (arith, nat_tests, own_keys, and_parts, both_true, equal_from_test, stored_in_turn arrivals entries key x)
  stored_in_turn arrivals entries key x same smaller = absurd (cc)

  -- and a pair with a larger key keeps an array packed
  pub packed_stored : (array : Arrivals K X) (key : K) (x : X) → is_packed_array cmp array ≡ true → AllByRecursion (λ p. cmp p.0 key ≡ Less) array.entries → is_packed_array cmp (stored cmp array key x) ≡ true
  packed_stored array key x packed smaller = grind (arith, nat_tests, packed_marks, stored_in_turn, both_true, put_beyond)

  -- all neighbours ascend in it
  packed_ascents : (arrivals : List (Option (K × X))) (entries : List (K × X)) → in_turn cmp arrivals entries ≡ true → IsAscending cmp entries
      → 0 < length entries → suc (ascents cmp (reachable arrivals)) ≡ length entries
  packed_ascents (Some pair ∷ []) (entry ∷ []) same ascending some = refl
  packed_ascents (Some pair ∷ (Some other ∷ arrivals)) (entry ∷ (next ∷ entries)) same ascending some =
      grind (arith, nat_tests, and_parts, alike_after, tied_back, equal_from_test, packed_ascents (Some other ∷ arrivals) (next ∷ entries))
  packed_ascents arrivals entries same ascending some = absurd (grind arith)

boundary_ascended : (len rises : ℕ) → IsLen len → suc rises ≡ len → ((boundary_of len len rises).0 ≡ len - 1) × ((boundary_of len len rises).2 ≡ true)
boundary_ascended len rises is_len all = grind (arith, nat_tests)

-- a full one divides before its last entry
pub packed_boundary : {K X : Type 0} {cmp : K → K → Ordering} → IsTotalOrder cmp → (len : ℕ) (array : Arrivals K X) → IsLen len → is_packed_array cmp array ≡ true → IsAscending cmp array.entries → length array.entries ≡ len
    → ((boundary cmp len array).0 ≡ len - 1) × ((boundary cmp len array).2 ≡ true)
packed_boundary o len array is_len packed ascending all = grind (arith, nat_tests, packed_marks, packed_ascents, boundary_ascended)
