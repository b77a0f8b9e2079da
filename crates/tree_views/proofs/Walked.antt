-- Cursors that take all pairs of an index, and two that are compared pair by pair.
use Rattle.tree_views.proofs.Common.{◌≡◌, Bool, true, Option, Some, None, List, [], ◌∷◌, Bor, refl, ◌∙◌, arith, is_some, not, Ordering, AllByRecursion, Unbounded, fresh, rest, On}
use Rattle.tree_views.proofs.Common.{Cursor, HasBegun, IsTotalOrder, Moves, filter_all, lent_entry, pointwise, rest_fresh, takes_first}

pub all_pass : {X : Type 0} (xs : List X) → AllByRecursion (λ x. true ≡ true) xs
all_pass [] = tt
all_pass (x ∷ xs) = (refl, all_pass xs)

module _ {K V : Type 0} where
  -- a new cursor over all pairs has all of them left
  pub all_left : (cmp : K → K → Ordering) (pairs : List (K × V)) → rest cmp On (fresh pairs Unbounded Unbounded) ≡ pairs
  all_left cmp pairs = rest_fresh cmp (fresh pairs Unbounded Unbounded) (record { forward = refl; backward = refl }) On ∙ filter_all (λ pair. true) pairs (all_pass pairs)

  -- what was left before a move that gave this, by what is left behind it
  abbrev pub given : Option (Bor K × Bor V) → List (K × V) → List (K × V)
  given None left = []
  given (Some pair) left = lent_entry pair ∷ left

  -- where the first list has ended, the second agrees with it if it gives no pair
  pub ends_both : (agree : K × V → K × V → Bool) (next : Option (Bor K × Bor V)) (left : List (K × V)) (none : Bool) → is_some next ≡ not none → none ≡ pointwise agree [] (given next left)
  ends_both agree next left none told = grind arith

  -- of two cursors that have begun, the pairs that are left compare to this
  pub record Compare {X : Type 0} (cmp : K → K → Ordering) (f : List (K × V) → List (K × V) → X) (all : X) (a b : Cursor K V) : Type 0 where
    pub first : HasBegun cmp On a
    pub second : HasBegun cmp On b
    pub same : f (rest cmp On a) (rest cmp On b) ≡ all

  given_left : {cmp : K → K → Ordering} (o : IsTotalOrder cmp) (s t : Cursor K V) (r : Option (Bor K × Bor V)) → Moves cmp On s r t → HasBegun cmp On s
      → HasBegun cmp On t × (rest cmp On s ≡ given r (rest cmp On t))
  given_left o s t None moves begun = let took = takes_first o On s t None moves begun in (took.0, took.1.0)
  given_left o s t (Some pair) moves begun = takes_first o On s t (Some pair) moves begun

  -- and once both have moved
  pub both_move : {X : Type 0} {cmp : K → K → Ordering} {f : List (K × V) → List (K × V) → X} {all : X} {a b t u : Cursor K V} {r q : Option (Bor K × Bor V)} (o : IsTotalOrder cmp)
      → Compare cmp f all a b → Moves cmp On a r t → Moves cmp On b q u → HasBegun cmp On t × HasBegun cmp On u × (f (given r (rest cmp On t)) (given q (rest cmp On u)) ≡ all)
  both_move o compare left right =
      let one = given_left o _ _ _ left compare.first in
      let other = given_left o _ _ _ right compare.second in
      (one.0, other.0, rw (one.1, other.1) at compare.same)
