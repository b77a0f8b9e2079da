-- What a cursor has still to give, and what holds of every cursor.
use Rattle.std.specs.Prelude.{◌≡◌, ℕ, ◌+◌, ◌<◌, Bool, true, List, filter, length, take, drop, slice_get, Option, Some}
use Rattle.std.specs.Borrow.{Bor}
use Rattle.std.specs.Option.{option_map}
use Rattle.std.specs.declared.cmp.Ordering.{Ordering}
use Rattle.tree_model.specs.Pairs.{IsAscending, within}
use Rattle.tree_model.specs.declared.way.Way.{Way}
use Rattle.tree_model.specs.declared.way.Way.TheVariants.{On, Back}
use Rattle.tree_model.specs.Ways.{along}
use Rattle.tree_model.specs.Cursor.{Cursor, End, unopened, at_place, exhausted, bound_on, end_on, meets, moved, shown_apart}

-- the place behind a forward end, and the place of a backward end
abbrev pub from_end : ℕ → End → ℕ
from_end len unopened = 0
from_end len (at_place i) = i + 1
from_end len exhausted = len

abbrev pub until_end : ℕ → End → ℕ
until_end len unopened = len
until_end len (at_place k) = k
until_end len exhausted = 0

-- the elements at the places from a up to b
abbrev pub piece : {X : Type 0} → List X → ℕ → ℕ → List X
piece xs a b = drop a (take b xs)

module _ {K V : Type 0} where
  -- the pairs between the ends
  abbrev pub between : Cursor K V → List (K × V)
  between c = piece c.pairs (from_end (length c.pairs) c.forward) (until_end (length c.pairs) c.backward)

-- an end that is at a place is at one of the list
abbrev pub StandsInside : {X : Type 0} → List X → End → Type 0
StandsInside xs unopened = Unit {0}
StandsInside xs (at_place i) = i < length xs
StandsInside xs exhausted = Unit {0}

-- an end that is at a place stands on an element that passes
abbrev pub StandsWhere : {X : Type 0} → (X → Bool) → List X → End → Type 0
StandsWhere test xs unopened = Unit {0}
StandsWhere {X} test xs (at_place i) = (x : X) × (slice_get xs i ≡ Some x) × (test x ≡ true)
StandsWhere test xs exhausted = Unit {0}

module _ {K V : Type 0} (cmp : K → K → Ordering) where
  -- the pairs between the ends that are within the bounds, in the order of the way
  abbrev pub rest : Way → Cursor K V → List (K × V)
  rest way c = filter (λ pair. within cmp c.low c.high pair.0) (along way (between c))

  -- the end stands within the bound at which it began
  abbrev pub HasBegun : Way → Cursor K V → Type 0
  HasBegun way c = StandsWhere (λ pair. meets cmp way (bound_on way c) pair.0) c.pairs (end_on way c)

  -- the keys ascend, and both ends stand within the bounds at which they began
  pub record IsSound (c : Cursor K V) : Type 0 where
    pub ascending : IsAscending cmp c.pairs
    pub forward : HasBegun On c
    pub backward : HasBegun Back c

-- the entry that is lent
abbrev pub lent_entry : {K V : Type 0} → Bor K × Bor V → K × V
lent_entry entry = (entry.0.now, entry.1.now)

-- the same, if one is
abbrev pub lent : {K V : Type 0} → Option (Bor K × Bor V) → Option (K × V)
lent item = option_map lent_entry item

-- a move takes a cursor s to t and answers r
pub record Moves {K V : Type 0} (cmp : K → K → Ordering) (way : Way) (s : Cursor K V) (r : Option (Bor K × Bor V)) (t : Cursor K V) : Type 0 where
  pub moves : t ≡ moved cmp way s
  pub answers : lent r ≡ shown_apart cmp way t
  pub ascending : IsAscending cmp s.pairs
  pub inside : StandsInside s.pairs s.backward
