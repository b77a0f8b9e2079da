-- The pair at an end of a list, and the pair at a key or beside it, by the place that a look-up tells.
use Rattle.std.proofs.Common.{◌≡◌, ℕ, zero, suc, ◌+◌, ◌-◌, ◌==◌, ◌<◌, ◌≤◌, Bool, true, false, if◌then◌else◌, List, [], ◌∷◌, length, slice_get, Option, Some, None, refl, ap, sym, ◌∙◌, arith, is_some, is_le, is_lt, Ordering, Less, Equal, Greater}
use Rattle.tree_model.proofs.Common.{IsTotalOrder, Unbounded, nat_tests, Cursor, at_place, fresh, greatest_place, shown, unopened, AllLarger, IsAscending, above, below, pair_at, nil_from_length}
use Rattle.tree_model.specs.declared.way.Way.TheVariants.{On, Back}
use Rattle.tree_array.proofs.Common.{all_map, filter_none, greater_from_less}
use Rattle.tree_leaf.proofs.ChainCommon.{first_of, last_of}
use Rattle.std.specs.Option.{option_or}
use Rattle.tree_model.specs.declared.proximity.ProximityOf.{ProximityOf}
use Rattle.tree_model.specs.declared.proximity.ProximityOf.TheVariants.{Exact, Between, Smaller, Larger, Empty}
use Rattle.tree_model.specs.Cursor.{moved, option_where, shown_apart, with_ends}
use Rattle.tree_model.specs.Located.{located}
use Rattle.tree_index.specs.Nearest.{at_or_above, at_or_below}
use Rattle.tree_model.proofs.LookUps.{none_larger}
use Rattle.tree_cursors.proofs.Nearest.{all_above}

-- every pair passes where the bound is open
where_open : {X : Type 0} (found : Option X) → option_where (λ _. true) found ≡ found
where_open None = refl
where_open (Some found) = refl

module _ {K V : Type 0} (cmp : K → K → Ordering) where
  -- the first move of a cursor over all pairs
  pub begins : (pairs : List (K × V)) → shown_apart cmp On (moved cmp On (fresh pairs Unbounded Unbounded)) ≡ first_of pairs
  begins [] = refl
  begins (pair ∷ pairs) = refl

  greatest : (pair : K × V) (pairs : List (K × V)) → greatest_place (λ _. true) (pair ∷ pairs) ≡ Some (length pairs)
  greatest pair [] = refl
  greatest pair (other ∷ pairs) = rw (greatest other pairs) refl

  pub begins_back : (pairs : List (K × V)) → shown_apart cmp Back (moved cmp Back (fresh pairs Unbounded Unbounded)) ≡ last_of pairs
  begins_back [] = refl
  begins_back (pair ∷ pairs) =
      let last : length pairs ≡ suc (length pairs) - 1 = omega arith in
      rw (greatest pair pairs) (where_open (slice_get (pair ∷ pairs) (length pairs)) ∙ ap (λ i. slice_get (pair ∷ pairs) i) last)

module _ {K V : Type 0} {cmp : K → K → Ordering} (o : IsTotalOrder cmp) (k : K) where
  none_below : (xs : List (K × V)) → AllLarger cmp k xs → below cmp xs k ≡ []
  none_below xs larger = filter_none (λ pair. is_lt (cmp pair.0 k)) xs (all_map (λ (q : K × V) (less : cmp k q.0 ≡ Less). ap is_lt (greater_from_less o k q.0 less)) xs larger)

  -- the pairs below the key are the first ones, and the pair of the key stands behind them, or else the first one above it
  record IsParted (l : List (K × V)) : Type 0 where
    first : (i : ℕ) → i < length (below cmp l k) → slice_get l i ≡ slice_get (below cmp l k) i
    behind : is_some (pair_at cmp l k) ≡ true → slice_get l (length (below cmp l k)) ≡ pair_at cmp l k
    beyond : is_some (pair_at cmp l k) ≡ false → slice_get l (length (below cmp l k)) ≡ first_of (above cmp l k)

  parted_more : (x : K × V) (xs : List (K × V)) → AllLarger cmp x.0 xs → IsParted xs → (r : Ordering) → cmp x.0 k ≡ r → IsParted (x ∷ xs)
  parted_more x xs larger rest Less h = record { first = by_place; behind = rw h rest.behind; beyond = rw h rest.beyond }
    where
      by_place : (i : ℕ) → i < length (below cmp (x ∷ xs) k) → slice_get (x ∷ xs) i ≡ slice_get (below cmp (x ∷ xs) k) i
      by_place zero lt = rw h refl
      by_place (suc i) lt = let less = rw h at lt in rw h (rest.first i (omega (arith, less)))
  parted_more x xs larger rest Equal h =
      let le : is_le (cmp k x.0) ≡ true = rw (o.antisymm k x.0, h) refl in
      let none = none_below xs (all_above o k x xs larger le) in
      record {
        first = λ i lt. let less = rw (h, none) at lt in absurd (omega (arith, less));
        behind = λ some. rw (h, none) refl;
        beyond = λ absent. absurd (let there = rw h at absent in cc);
      }
  parted_more x xs larger rest Greater h =
      let le : is_le (cmp k x.0) ≡ true = rw (o.antisymm k x.0, h) refl in
      let later = all_above o k x xs larger le in
      record {
        first = λ i lt. let less = rw (h, none_below xs later) at lt in absurd (omega (arith, less));
        behind = λ some. absurd (let there = rw (h, none_larger o k xs later) at some in cc);
        beyond = λ absent. rw (h, none_below xs later) refl;
      }

  parted : (l : List (K × V)) → IsAscending cmp l → IsParted l
  parted [] ascending = record { first = λ i lt. absurd (omega arith); behind = λ some. absurd (cc); beyond = λ absent. refl }
  parted (x ∷ xs) ascending = parted_more x xs ascending.0 (parted xs ascending.1) (cmp x.0 k) refl

or_first : {X : Type 0} (first second : Option X) → is_some first ≡ true → first ≡ option_or first second
or_first None second some = absurd (cc)
or_first (Some found) second some = refl

or_second : {X : Type 0} (first second : Option X) → is_some first ≡ false → second ≡ option_or first second
or_second None second none = refl
or_second (Some found) second none = absurd (cc)

or_neither : {X : Type 0} (first second : Option X) → is_some first ≡ false → second ≡ None → None ≡ option_or first second
or_neither None second none neither = sym neither
or_neither (Some found) second none neither = absurd (cc)

-- what each answer of a look-up tells
module _ {K V : Type 0} (l : List (K × V)) (n : ℕ) (at : Cursor K V) where
  -- by whether the list is empty, whether the key is in it, and whether it belongs before all pairs or behind them
  abbrev told : Bool → Bool → Bool → Bool → ProximityOf (Cursor K V)
  told empty present first last =
      if empty then Empty
      else if present then Exact (with_ends l (at_place n) unopened)
      else if first then Larger (with_ends l (at_place 0) unopened)
      else if last then Smaller (with_ends l unopened (at_place (n - 1)))
      else Between (with_ends l (at_place (n - 1)) (at_place n))

  exact_tells : (empty present first last : Bool) → Exact at ≡ told empty present first last → (present ≡ true) × (at ≡ with_ends l (at_place n) unopened)
  exact_tells true present first last is = absurd (cc)
  exact_tells false true first last is = (refl, cc)
  exact_tells false false true last is = absurd (cc)
  exact_tells false false false true is = absurd (cc)
  exact_tells false false false false is = absurd (cc)

  between_tells : (empty present first last : Bool) → Between at ≡ told empty present first last → (present ≡ false) × (first ≡ false) × (at ≡ with_ends l (at_place (n - 1)) (at_place n))
  between_tells true present first last is = absurd (cc)
  between_tells false true first last is = absurd (cc)
  between_tells false false true last is = absurd (cc)
  between_tells false false false true is = absurd (cc)
  between_tells false false false false is = (refl, refl, cc)

  smaller_tells : (empty present first last : Bool) → Smaller at ≡ told empty present first last → (present ≡ false) × (first ≡ false) × (last ≡ true) × (at ≡ with_ends l unopened (at_place (n - 1)))
  smaller_tells true present first last is = absurd (cc)
  smaller_tells false true first last is = absurd (cc)
  smaller_tells false false true last is = absurd (cc)
  smaller_tells false false false true is = (refl, refl, refl, cc)
  smaller_tells false false false false is = absurd (cc)

  larger_tells : (empty present first last : Bool) → Larger at ≡ told empty present first last → (present ≡ false) × (first ≡ true) × (at ≡ with_ends l (at_place 0) unopened)
  larger_tells true present first last is = absurd (cc)
  larger_tells false true first last is = absurd (cc)
  larger_tells false false true last is = (refl, refl, cc)
  larger_tells false false false true is = absurd (cc)
  larger_tells false false false false is = absurd (cc)

  empty_tells : (empty present first last : Bool) → Empty ≡ told empty present first last → empty ≡ true
  empty_tells true present first last is = refl
  empty_tells false true first last is = absurd (cc)
  empty_tells false false true last is = absurd (cc)
  empty_tells false false false true is = absurd (cc)
  empty_tells false false false false is = absurd (cc)

-- the pairs below a key and those above it are no more than all
beside_all : {K V : Type 0} (cmp : K → K → Ordering) (k : K) (l : List (K × V)) → length (below cmp l k) + length (above cmp l k) ≤ length l
beside_all cmp k [] = omega arith
beside_all {K} {V} cmp k (x ∷ xs) = by_order (cmp x.0 k) refl (beside_all cmp k xs)
  where
    by_order : (r : Ordering) → cmp x.0 k ≡ r → length (below cmp xs k) + length (above cmp xs k) ≤ length xs
        → length (below cmp (x ∷ xs) k) + length (above cmp (x ∷ xs) k) ≤ suc (length xs)
    by_order Less h few = rw h (omega (arith, few))
    by_order Equal h few = rw h (omega (arith, few))
    by_order Greater h few = rw h (omega (arith, few))

module _ {K V : Type 0} {cmp : K → K → Ordering} (o : IsTotalOrder cmp) (l : List (K × V)) (k : K) where
  -- how many keys are smaller, and whether the key is present
  abbrev smaller_keys : ℕ
  smaller_keys = length (below cmp l k)

  abbrev is_present : Bool
  is_present = is_some (pair_at cmp l k)

  last_below : IsAscending cmp l → (smaller_keys == 0) ≡ false → slice_get l (smaller_keys - 1) ≡ last_of (below cmp l k)
  last_below ascending some = (parted o k l ascending).first (smaller_keys - 1) (grind (arith, nat_tests, some))

  first_above : IsAscending cmp l → is_present ≡ false → (smaller_keys == 0) ≡ true → slice_get l 0 ≡ first_of (above cmp l k)
  first_above ascending absent none = let zero : smaller_keys ≡ 0 = grind (arith, nat_tests, none) in rw zero at (parted o k l ascending).beyond absent

  module _ (at : Cursor K V) (ascending : IsAscending cmp at.pairs) where
    pub exact_below : Exact at ≡ located cmp l k → shown cmp On at ≡ at_or_below cmp l k
    exact_below is =
        let tells = exact_tells l smaller_keys at (length l == 0) is_present (smaller_keys == 0) (smaller_keys == length l) is in
        let ascends : IsAscending cmp l = rw tells.1 at ascending in
        rw tells.1 (where_open (slice_get l smaller_keys) ∙ (parted o k l ascends).behind tells.0 ∙ or_first (pair_at cmp l k) (last_of (below cmp l k)) tells.0)

    pub exact_above : Exact at ≡ located cmp l k → shown cmp On at ≡ at_or_above cmp l k
    exact_above is =
        let tells = exact_tells l smaller_keys at (length l == 0) is_present (smaller_keys == 0) (smaller_keys == length l) is in
        let ascends : IsAscending cmp l = rw tells.1 at ascending in
        rw tells.1 (where_open (slice_get l smaller_keys) ∙ (parted o k l ascends).behind tells.0 ∙ or_first (pair_at cmp l k) (first_of (above cmp l k)) tells.0)

    pub between_below : Between at ≡ located cmp l k → shown cmp On at ≡ at_or_below cmp l k
    between_below is =
        let tells = between_tells l smaller_keys at (length l == 0) is_present (smaller_keys == 0) (smaller_keys == length l) is in
        let ascends : IsAscending cmp l = rw tells.2 at ascending in
        rw tells.2 (where_open (slice_get l (smaller_keys - 1)) ∙ last_below ascends tells.1 ∙ or_second (pair_at cmp l k) (last_of (below cmp l k)) tells.0)

    pub between_above : Between at ≡ located cmp l k → shown cmp Back at ≡ at_or_above cmp l k
    between_above is =
        let tells = between_tells l smaller_keys at (length l == 0) is_present (smaller_keys == 0) (smaller_keys == length l) is in
        let ascends : IsAscending cmp l = rw tells.2 at ascending in
        rw tells.2 (where_open (slice_get l smaller_keys) ∙ (parted o k l ascends).beyond tells.0 ∙ or_second (pair_at cmp l k) (first_of (above cmp l k)) tells.0)

    pub smaller_below : Smaller at ≡ located cmp l k → shown cmp Back at ≡ at_or_below cmp l k
    smaller_below is =
        let tells = smaller_tells l smaller_keys at (length l == 0) is_present (smaller_keys == 0) (smaller_keys == length l) is in
        let ascends : IsAscending cmp l = rw tells.3 at ascending in
        rw tells.3 (where_open (slice_get l (smaller_keys - 1)) ∙ last_below ascends tells.1 ∙ or_second (pair_at cmp l k) (last_of (below cmp l k)) tells.0)

    pub larger_above : Larger at ≡ located cmp l k → shown cmp On at ≡ at_or_above cmp l k
    larger_above is =
        let tells = larger_tells l smaller_keys at (length l == 0) is_present (smaller_keys == 0) (smaller_keys == length l) is in
        let ascends : IsAscending cmp l = rw tells.2 at ascending in
        rw tells.2 (where_open (slice_get l 0) ∙ first_above ascends tells.0 tells.1 ∙ or_second (pair_at cmp l k) (first_of (above cmp l k)) tells.0)

  pub smaller_above : (at : Cursor K V) → Smaller at ≡ located cmp l k → None ≡ at_or_above cmp l k
  smaller_above at is =
      let tells = smaller_tells l smaller_keys at (length l == 0) is_present (smaller_keys == 0) (smaller_keys == length l) is in
      let all : smaller_keys ≡ length l = grind (arith, nat_tests, tells.2) in
      let none : above cmp l k ≡ [] = nil_from_length (above cmp l k) (omega (arith, all, beside_all cmp k l)) in
      or_neither (pair_at cmp l k) (first_of (above cmp l k)) tells.0 (rw none refl)

  pub larger_below : (at : Cursor K V) → Larger at ≡ located cmp l k → None ≡ at_or_below cmp l k
  larger_below at is =
      let tells = larger_tells l smaller_keys at (length l == 0) is_present (smaller_keys == 0) (smaller_keys == length l) is in
      let none : below cmp l k ≡ [] = nil_from_length (below cmp l k) (grind (arith, nat_tests, tells.1)) in
      or_neither (pair_at cmp l k) (last_of (below cmp l k)) tells.0 (rw none refl)

  -- where there is no pair
  empty_list : Empty ≡ located cmp l k → l ≡ []
  empty_list is = nil_from_length l (let empty = empty_tells l smaller_keys (with_ends l unopened unopened) (length l == 0) is_present (smaller_keys == 0) (smaller_keys == length l) is in grind (arith, nat_tests, empty))

  pub empty_below : Empty ≡ located cmp l k → None ≡ at_or_below cmp l k
  empty_below is = rw (empty_list is) refl

  pub empty_above : Empty ≡ located cmp l k → None ≡ at_or_above cmp l k
  empty_above is = rw (empty_list is) refl
