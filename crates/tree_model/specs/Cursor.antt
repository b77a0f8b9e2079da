-- A cursor: a list of pairs, two bounds and two ends. Places of the list count from 0. A way is on to larger keys or back to smaller ones: the forward end moves on, and the backward end back.
use Rattle.std.specs.Prelude.{ℕ, zero, suc, ◌+◌, Bool, true, false, if◌then◌else◌, ltb, not, ◌&&◌, ◌||◌, List, [], ◌∷◌, length, Option, Some, None, slice_get, is_some}
use Rattle.std.specs.Option.{option_map, option_or}
use Rattle.std.specs.declared.cmp.Ordering.{Ordering}
use Rattle.std.specs.declared.ops.Bound.{Bound}
use Rattle.std.specs.declared.ops.Bound.TheVariants.{Unbounded}
use Rattle.tree_model.specs.Pairs.{meets_lower, meets_upper}
use Rattle.tree_model.specs.declared.way.Way.{Way}
use Rattle.tree_model.specs.declared.way.Way.TheVariants.{On, Back}
use Rattle.tree_model.specs.Ways.{opposite}

-- where an end is: it was never moved, it is at a place of the list, or it has left the list
pub data End : Type 0 where
  unopened : End
  at_place : ℕ → End
  exhausted : End

pub record Cursor (K V : Type 0) : Type 0 where
  pub pairs : List (K × V)
  pub low : Bound K
  pub high : Bound K
  pub forward : End
  pub backward : End

module _ {K V : Type 0} where
  -- a cursor that was never moved
  abbrev pub fresh : List (K × V) → Bound K → Bound K → Cursor K V
  fresh pairs low high = record { pairs = pairs; low = low; high = high; forward = unopened; backward = unopened }

  -- a cursor over all pairs, with these ends
  abbrev pub with_ends : List (K × V) → End → End → Cursor K V
  with_ends pairs forward backward = record { pairs = pairs; low = Unbounded; high = Unbounded; forward = forward; backward = backward }

  -- the cursor with both bounds open
  abbrev pub opened : Cursor K V → Cursor K V
  opened c = with_ends c.pairs c.forward c.backward

  -- the end that moves this way
  abbrev pub end_on : Way → Cursor K V → End
  end_on On c = c.forward
  end_on Back c = c.backward

  abbrev pub with_end : Way → Cursor K V → End → Cursor K V
  with_end On c end = record c { forward = end }
  with_end Back c end = record c { backward = end }

  -- the bound within which it begins; the other bound is where it stops
  abbrev pub bound_on : Way → Cursor K V → Bound K
  bound_on On c = c.low
  bound_on Back c = c.high

-- the end at a place, if there is one
abbrev pub end_at : Option ℕ → End
end_at None = exhausted
end_at (Some i) = at_place i

abbrev pub is_unopened : End → Bool
is_unopened unopened = true
is_unopened (at_place i) = false
is_unopened exhausted = false

-- neither end is exhausted, and where both stand at a place, the forward one stands before the backward one
abbrev pub are_apart : End → End → Bool
are_apart exhausted backward = false
are_apart forward exhausted = false
are_apart (at_place i) (at_place k) = ltb i k
are_apart forward backward = true

-- the place beside one on the way, if a list of this length has it
abbrev pub place_beside : Way → ℕ → ℕ → Option ℕ
place_beside On len i = if ltb (i + 1) len then Some (i + 1) else None
place_beside Back len zero = None
place_beside Back len (suc i) = Some i

module _ {X : Type 0} where
  -- the least place whose element passes a test, and the greatest
  abbrev pub least_place : (X → Bool) → List X → Option ℕ
  least_place test [] = None
  least_place test (x ∷ xs) = if test x then Some 0 else option_map (λ i. suc i) (least_place test xs)

  abbrev pub greatest_place : (X → Bool) → List X → Option ℕ
  greatest_place test [] = None
  greatest_place test (x ∷ xs) = option_or (option_map (λ i. suc i) (greatest_place test xs)) (if test x then Some 0 else None)

  -- the one that comes first on the way
  abbrev pub first_place : Way → (X → Bool) → List X → Option ℕ
  first_place On = least_place
  first_place Back = greatest_place

  -- the element at an end
  abbrev pub element_at : List X → End → Option X
  element_at xs unopened = None
  element_at xs (at_place i) = slice_get xs i
  element_at xs exhausted = None

  -- x, if it passes
  abbrev pub option_where : (X → Bool) → Option X → Option X
  option_where test None = None
  option_where test (Some x) = if test x then Some x else None

module _ {K : Type 0} (cmp : K → K → Ordering) where
  -- k is within the bound at which this way begins
  abbrev pub meets : Way → Bound K → K → Bool
  meets On = meets_lower cmp
  meets Back = meets_upper cmp

module _ {K V : Type 0} (cmp : K → K → Ordering) where
  -- where an end moves to: the first place within its bound, or one place along; an exhausted end stays
  abbrev pub next_end : Way → Bound K → List (K × V) → End → End
  next_end way bound pairs unopened = end_at (first_place way (λ pair. meets cmp way bound pair.0) pairs)
  next_end way bound pairs (at_place i) = end_at (place_beside way (length pairs) i)
  next_end way bound pairs exhausted = exhausted

  -- the cursor once the end has moved
  abbrev pub moved : Way → Cursor K V → Cursor K V
  moved way c = with_end way c (next_end way (bound_on way c) c.pairs (end_on way c))

  -- the pair of the end, if it is within the bound where the end stops
  abbrev pub shown : Way → Cursor K V → Option (K × V)
  shown way c = option_where (λ pair. meets cmp (opposite way) (bound_on (opposite way) c) pair.0) (element_at c.pairs (end_on way c))

  -- what a move answers once the end has moved
  abbrev pub shown_apart : Way → Cursor K V → Option (K × V)
  shown_apart way c = if are_apart c.forward c.backward then shown way c else None

  -- this end alone is opened, and it shows a pair
  abbrev pub can_turn : Way → Cursor K V → Bool
  can_turn way c = not (is_unopened (end_on way c)) && is_unopened (end_on (opposite way) c) && is_some (shown way c)

  -- its place goes to the other end
  abbrev pub turned : Way → Cursor K V → Cursor K V
  turned way c = with_end (opposite way) (with_end way c unopened) (end_on way c)

  abbrev pub flipped : Cursor K V → Cursor K V
  flipped c = if can_turn On c then turned On c else if can_turn Back c then turned Back c else c

  abbrev pub can_flip : Cursor K V → Bool
  can_flip c = (is_unopened c.forward && is_unopened c.backward) || can_turn On c || can_turn Back c
