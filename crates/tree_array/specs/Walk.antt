-- A walk over the slots of an array, in the order of their keys or against it.
use Rattle.std.specs.Prelude.{◌≡◌, ℕ, ◌+◌, ◌-◌, ◌<◌, ◌≤◌, List, map, drop, length, Option, None, Some, MatchOption, slice_get}
use Rattle.std.specs.Iterator.{Count, at_most}
use Rattle.std.specs.declared.cmp.Ordering.{Ordering}
use Rattle.tree_model.specs.Pairs.{IsAscending}
use Rattle.tree_model.specs.declared.way.Way.{Way}
use Rattle.tree_model.specs.declared.way.Way.TheVariants.{On, Back}
use Rattle.tree_array.specs.Arrivals.{Arrivals, arrival}

-- the slots in the order of their keys, and the place among them that the walk stands at, if it has begun
pub record Walk : Type 0 where
  pub slots : List ℕ
  pub at : Option ℕ

-- a walk that stands at a place, or has not begun
abbrev pub standing : List ℕ → Option ℕ → Walk
standing slots at = record { slots = slots; at = at }

-- the place that a walk in the order of the keys goes to
abbrev pub place_ahead : Option ℕ → ℕ
place_ahead None = 0
place_ahead (Some place) = place + 1

-- how many places lie ahead of a walk against that order
abbrev pub places_behind : ℕ → Option ℕ → ℕ
places_behind len None = len
places_behind len (Some place) = place

-- of so many places, how many lie ahead of a walk this way, and the one that a step goes to
abbrev pub places_left : Way → ℕ → Option ℕ → ℕ
places_left On len at = len - place_ahead at
places_left Back len at = places_behind len at

abbrev pub next_place : Way → ℕ → Option ℕ → ℕ
next_place On len at = place_ahead at
next_place Back len at = places_behind len at - 1

-- one step through a list, to the next place, or none at the end, where the walk keeps its place
abbrev pub StepsOver : {X : Type 0} → Way → List X → Option ℕ → Option X → Option ℕ → Type 0
StepsOver way xs old result new =
    let place = next_place way (length xs) old in
    MatchOption result
    ((places_left way (length xs) old ≡ 0) × (new ≡ old))
    (λ x. (0 < places_left way (length xs) old) × (slice_get xs place ≡ Some x) × (new ≡ Some place))

-- one step of a walk through its slots
abbrev pub Steps : Way → Walk → Option ℕ → Walk → Type 0
Steps way old result new = (new.slots ≡ old.slots) × StepsOver way old.slots old.at result new.at

-- how many steps are left at most
abbrev pub steps_left : Way → Walk → Count
steps_left way walk = at_most (places_left way (length walk.slots) walk.at)

-- the slots that lie ahead of the walk are those of the entries, which ascend and are no more than slots
pub record IsOver {K V : Type 0} (cmp : K → K → Ordering) (len : ℕ) (array : Arrivals K V) (walk : Walk) : Type 0 where
  pub slots : map (arrival array.arrivals) (drop (place_ahead walk.at) walk.slots) ≡ map Some array.entries
  pub ascending : IsAscending cmp array.entries
  pub few : length array.entries ≤ len
