-- What is left of a cursor over prices.
use Rattle.std.proofs.Common.{◌≡◌, ℕ, Bool, true, false, if◌then◌else◌, List, [], ◌∷◌, ◌++◌, reverse, Some, None, Bor, refl, sym, ap, ◌∙◌, append-nil, arith, filter, max, nat_cmp}
use Rattle.tree_model.proofs.Common.{Unbounded, nat_cmp_total, reverse_onto, filter-append, lent_entry, HasBegun, Moves, rest, within, Cursor, fresh}
use Rattle.tree_model.specs.declared.way.Way.TheVariants.{On, Back}
use Rattle.tree_model.specs.Rest.{between}
use Rattle.tree_cursors.specs.Ranged.{IsFresh, pairs_within}
use Rattle.tree_cursors.proofs.Yields.{fresh_begun, rest_fresh, takes_first}
use Rattle.usage.specs.Walks.{AreEnds, highest}

-- the highest price so far and those that are left
pub record IsHighest (prices : List (ℕ × ℕ)) (so_far : ℕ) (now : Cursor ℕ ℕ) : Type 0 where
  pub begun : HasBegun nat_cmp On now
  pub same : max so_far (highest (rest nat_cmp On now)) ≡ highest prices

all_open : (prices : List (ℕ × ℕ)) → filter (λ pair. within nat_cmp Unbounded Unbounded pair.0) prices ≡ prices
all_open [] = refl
all_open (pair ∷ prices) = ap (λ t. pair ∷ t) (all_open prices)

pub highest_none : (prices : List (ℕ × ℕ)) → IsHighest prices 0 (fresh prices Unbounded Unbounded)
highest_none prices =
    let new : IsFresh (fresh prices Unbounded Unbounded) = record { forward = refl; backward = refl } in
    record { begun = tt; same = rw (rest_fresh nat_cmp (fresh prices Unbounded Unbounded) new On, all_open prices) (omega arith) }

module _ (prices : List (ℕ × ℕ)) (so_far : ℕ) (s t : Cursor ℕ ℕ) (was : IsHighest prices so_far s) where
  pub highest_more : (offer : Bor ℕ × Bor ℕ) → Moves nat_cmp On s (Some offer) t → (n : ℕ) → n ≡ max so_far (lent_entry offer).1 → IsHighest prices n t
  highest_more offer moves n is =
      let takes = takes_first nat_cmp_total On s t (Some offer) moves was.begun in
      let same : max so_far (max (lent_entry offer).1 (highest (rest nat_cmp On t))) ≡ highest prices = rw takes.1 at was.same in
      record { begun = takes.0; same = omega (arith, same, is) }

  pub highest_all : Moves nat_cmp On s None t → so_far ≡ highest prices
  highest_all moves =
      let takes = takes_first nat_cmp_total On s t None moves was.begun in
      let same : max so_far 0 ≡ highest prices = rw takes.1.0 at was.same in
      omega (arith, same)

-- the other way the pairs within the bounds are left in the other order
filter_turned : (test : ℕ × ℕ → Bool) (xs : List (ℕ × ℕ)) → filter test (reverse xs) ≡ reverse (filter test xs)
filter_turned test [] = refl
filter_turned test (x ∷ xs) = rw (reverse_onto xs x [], filter-append test (reverse xs) (x ∷ []), filter_turned test xs) (by_test (test x))
  where
    by_test : (b : Bool) → reverse (filter test xs) ++ (if b then x ∷ [] else []) ≡ reverse (if b then x ∷ filter test xs else filter test xs)
    by_test true = sym (reverse_onto (filter test xs) x [])
    by_test false = append-nil (reverse (filter test xs))

rest_turned : (c : Cursor ℕ ℕ) → rest nat_cmp Back c ≡ reverse (rest nat_cmp On c)
rest_turned c = filter_turned (λ pair. within nat_cmp c.low c.high pair.0) (between c)

-- the ends of the pairs within the bounds
module _ (c s : Cursor ℕ ℕ) (new : IsFresh c) where
  pub ends_none : Moves nat_cmp On c None s → pairs_within nat_cmp c ≡ []
  ends_none moves = sym (rest_fresh nat_cmp c new On) ∙ (takes_first nat_cmp_total On c s None moves (fresh_begun nat_cmp c new On)).1.0

  module _ (first : Bor ℕ × Bor ℕ) (moves : Moves nat_cmp On c (Some first) s) where
    parts : pairs_within nat_cmp c ≡ lent_entry first ∷ rest nat_cmp On s
    parts = sym (rest_fresh nat_cmp c new On) ∙ (takes_first nat_cmp_total On c s (Some first) moves (fresh_begun nat_cmp c new On)).1

    back_begun : HasBegun nat_cmp Back s
    back_begun = rw moves.moves (fresh_begun nat_cmp c new Back)

    pub ends_one : (t : Cursor ℕ ℕ) → Moves nat_cmp Back s None t → AreEnds (pairs_within nat_cmp c) (Some ((lent_entry first).0, (lent_entry first).0))
    ends_one t back =
        let none : reverse (rest nat_cmp On s) ≡ [] = sym (rest_turned s) ∙ (takes_first nat_cmp_total Back s t None back back_begun).1.0 in
        rw (parts, reverse_onto (rest nat_cmp On s) (lent_entry first) [], none) (refl, refl)

    pub ends_two : (t : Cursor ℕ ℕ) (last : Bor ℕ × Bor ℕ) → Moves nat_cmp Back s (Some last) t → AreEnds (pairs_within nat_cmp c) (Some ((lent_entry first).0, (lent_entry last).0))
    ends_two t last back =
        let some : reverse (rest nat_cmp On s) ≡ lent_entry last ∷ rest nat_cmp Back t = sym (rest_turned s) ∙ (takes_first nat_cmp_total Back s t (Some last) back back_begun).1 in
        rw (parts, reverse_onto (rest nat_cmp On s) (lent_entry first) [], some) (refl, refl)

-- the second of all prices
module _ (prices : List (ℕ × ℕ)) (s : Cursor ℕ ℕ) where
  is_new : IsFresh (fresh prices Unbounded Unbounded)
  is_new = record { forward = refl; backward = refl }

  all_left : rest nat_cmp On (fresh prices Unbounded Unbounded) ≡ prices
  all_left = rest_fresh nat_cmp (fresh prices Unbounded Unbounded) is_new On ∙ all_open prices

  pub second_of_none : Moves nat_cmp On (fresh prices Unbounded Unbounded) None s → prices ≡ []
  second_of_none moves = sym all_left ∙ (takes_first nat_cmp_total On _ s None moves (fresh_begun nat_cmp (fresh prices Unbounded Unbounded) is_new On)).1.0

  module _ (first : Bor ℕ × Bor ℕ) (moves : Moves nat_cmp On (fresh prices Unbounded Unbounded) (Some first) s) (t : Cursor ℕ ℕ) where
    others : HasBegun nat_cmp On s × (prices ≡ lent_entry first ∷ rest nat_cmp On s)
    others =
        let takes = takes_first nat_cmp_total On _ s (Some first) moves (fresh_begun nat_cmp (fresh prices Unbounded Unbounded) is_new On) in
        (takes.0, sym all_left ∙ takes.1)

    pub second_of_one : Moves nat_cmp On s None t → prices ≡ lent_entry first ∷ []
    second_of_one again = rw (← (takes_first nat_cmp_total On s t None again others.0).1.0) others.1

    pub second_of_two : (second : Bor ℕ × Bor ℕ) → Moves nat_cmp On s (Some second) t → prices ≡ lent_entry first ∷ lent_entry second ∷ rest nat_cmp On t
    second_of_two second again = rw (← (takes_first nat_cmp_total On s t (Some second) again others.0).1) others.1
